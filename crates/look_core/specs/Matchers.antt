-- What a matcher of looks is made from: the class of words, and what ends a line.
use Rattle.look_core.specs.Terminators.{Terminator}

pub record Matcher (W : Type 0) : Type 0 where
  pub words : W
  pub terminator : Terminator
