-- If reading a stack from its top gives the empty list, the stack is empty.
use Rattle.std.proofs.Common.{◌≡◌, List, [], reverse, sym, ap, ◌∙◌}
use Rattle.std.proofs.lemmas.List.{reverse-reverse}

pub none_left : {A : Type 0} (xs : List A) → reverse xs ≡ [] → xs ≡ []
none_left xs e = sym (reverse-reverse xs) ∙ ap reverse e
