-- What the crate's results say of a text and of a line.
use Rattle.std.specs.Prelude.{◌≡◌, ℕ, List, [], ◌∷◌, ◌++◌, Option, Some, None, codes}
use denote.Ref.{Bor}
use Rattle.hirscan.specs.declared.fault.FaultKind.{FaultKind}
use Rattle.hirscan.specs.declared.fault.FaultKind.TheVariants.{NoFindLine, UnknownWord, SettingAfterNode, WrongWordCount, BadNumber, BadHex}
use Rattle.hirscan.specs.declared.fault.FaultKind.TheVariants.{BadRange, UnknownLook, BadChoice, MinAboveMax, TooFewTrees, TooDeep}
use Rattle.hirscan.specs.declared.fault.FaultKind.TheVariants.{NotOneTree, TreeLeftOver}
use Rattle.hirscan.specs.declared.fault.Fault.{Fault}
use Rattle.hirscan.specs.declared.fault.Fault.TheVariants as of_text
use Rattle.hirscan.specs.declared.fault.LineFault.{LineFault}
use Rattle.hirscan.specs.declared.fault.LineFault.TheVariants as of_line
use Rattle.hirscan.specs.declared.line.Step.{Step}
use Rattle.hirscan.specs.declared.line.Step.TheVariants.{Next, End}
use Rattle.hirscan.specs.declared.line.HeadState.{HeadState}
use Rattle.hirscan.specs.declared.head.Head.{Head}
use Rattle.hirscan.specs.declared.split.WordsLeft.{WordsLeft}
use Rattle.hirscan.specs.Words.{words}
use Rattle.hirscan.specs.Takes.{QueryValue, at_first, Takes, EndsQuery}
use Rattle.hirscan.specs.Reads.{IsOneLine, IsFaultAt}
use Rattle.hirscan.specs.declared.words.LineWord.{LineWord}
use Rattle.hirscan.specs.declared.words.LineWord.TheVariants.{Find}
use Rattle.hirscan.specs.LineFault.{left_fault, after_line}

-- how a kind is printed
abbrev pub kind_text : FaultKind → List ℕ
kind_text NoFindLine = codes "no find line"
kind_text UnknownWord = codes "unknown word"
kind_text SettingAfterNode = codes "setting after a node"
kind_text WrongWordCount = codes "wrong word count"
kind_text BadNumber = codes "bad number"
kind_text BadHex = codes "bad hex"
kind_text BadRange = codes "bad range"
kind_text UnknownLook = codes "unknown look"
kind_text BadChoice = codes "bad choice"
kind_text MinAboveMax = codes "min above max"
kind_text TooFewTrees = codes "too few trees"
kind_text TooDeep = codes "too deep"
kind_text NotOneTree = codes "not one tree"
kind_text TreeLeftOver = codes "tree left over"

-- the words of a line that are still to be read
abbrev pub words_left_of : Option (Bor (List ℕ)) → List (List ℕ)
words_left_of None = []
words_left_of (Some left) = words left.now

abbrev pub words_left : WordsLeft → List (List ℕ)
words_left these = words_left_of these.left

-- the state of a query, as the rules see it
abbrev pub query_value : HeadState → QueryValue
query_value state = record { setup = state.setup; stack = state.stack.items; patterns = state.patterns.items }

-- the state at the end of a query
abbrev pub value_of_query : Head → QueryValue
value_of_query head = record {
  setup = record { settings = head.settings; anchored = head.anchored; span = head.span };
  stack = [];
  patterns = head.patterns.items;
}

-- The fault of a text is the first one. A failed allocation says nothing of the text.
abbrev pub ReportsFault : List ℕ → Fault → Type 0
ReportsFault text (of_text.Notation line kind) = IsFaultAt text at_first line kind
ReportsFault text of_text.NoMemory = Unit {0}

-- The fault of a line, or of a part of it, is the given one. A failed allocation says nothing of the line.
abbrev pub ReportsLineFault : Option FaultKind → LineFault → Type 0
ReportsLineFault found (of_line.Is kind) = found ≡ Some kind
ReportsLineFault found of_line.NoMemory = Unit {0}

-- the line was accepted, or it ended the query and the state stays
abbrev pub ReportsStep : List (List ℕ) → QueryValue → QueryValue → Step → Type 0
ReportsStep ws before after Next = Takes ws before after
ReportsStep ws before after End = EndsQuery ws before × (after ≡ before)

-- a line that is allowed there, and has as many words as it may, has no fault and does what it says
abbrev pub IsDone : LineWord → List (List ℕ) → QueryValue → QueryValue → Type 0
IsDone k args before now = (left_fault k args before ≡ None) × (now ≡ after_line k args before)

-- what comes after a line
abbrev pub step_after : LineWord → Step
step_after Find = End
step_after _ = Next

-- the text's first line, without its line feed, and what follows that
pub record CutsLine (text line rest : List ℕ) : Type 0 where
  pub parts : text ≡ line ++ 10 ∷ rest
  pub one_line : IsOneLine line

-- the error of a fault, with this line of the text
abbrev pub on_line : LineFault → ℕ → Fault
on_line (of_line.Is kind) line = of_text.Notation line kind
on_line of_line.NoMemory line = of_text.NoMemory
