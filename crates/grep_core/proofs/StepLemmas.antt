-- What is still to be printed, line by line. Lines that wait for one that is selected are in a queue.
use Rattle.std.proofs.Common.{inl, inr, ◌≡◌, ◌≤◌, ◌<◌, ℕ, zero, suc, Bool, true, false, List, [], ◌∷◌, ◌++◌, map, length, take, refl, sym}
use Rattle.std.proofs.Common.{ap, ap₂, ◌∙◌, ◌+◌, if◌then◌else◌, ◌⊎◌, rules, arith, append_assoc, append-nil, length-append}
use Rattle.std.proofs.lemmas.Grind.{common_steps}
use Rattle.grep_core.specs.declared.role.Role.{Role}
use Rattle.grep_core.specs.declared.role.Role.TheVariants.{Selected, Beside, Hidden}
use Rattle.grep_core.specs.declared.output_options.OutputOptions.{OutputOptions}
use Rattle.grep_core.specs.declared.separator_state.SeparatorState.{SeparatorState}
use Rattle.grep_core.specs.declared.separator_state.SeparatorState.TheVariants.{NonePrinted, LastPrinted, EarlierPrinted}
use Rattle.grep_core.specs.Selecting.{any, roles_from}
use Rattle.grep_core.specs.ContextPrinting.{queued, after_queue}
use Rattle.grep_core.specs.Report.{after_hidden, parting, print_lines}

-- what is known after so many lines of which none is printed
abbrev pub known_after : SeparatorState → ℕ → SeparatorState
known_after b zero = b
known_after b (suc n) = after_hidden b

hidden_again : (b : SeparatorState) → after_hidden (after_hidden b) ≡ after_hidden b
hidden_again NonePrinted = refl
hidden_again LastPrinted = refl
hidden_again EarlierPrinted = refl

known_again : (b : SeparatorState) (n : ℕ) → known_after (after_hidden b) n ≡ after_hidden b
known_again b zero = refl
known_again b (suc n) = hidden_again b

pub known_some : (b : SeparatorState) (n : ℕ) → 0 < n → known_after b n ≡ after_hidden b
known_some b zero some = absurd (omega (arith, some))
known_some b (suc n) some = refl

module _ {X : Type 0} (w : OutputOptions) (print : Role → X → List ℕ) (before after : ℕ) where
  -- none of these lines is selected
  abbrev none_of : List X → List Bool
  none_of queue = map (λ _. false) queue

  -- what is still to be printed: of the lines in the queue, none of them selected, and of those after them
  abbrev pub rest : SeparatorState → ℕ → List X → List Bool → List X → List ℕ
  rest b left queue flags lines = print_lines w print b (roles_from before after left (none_of queue ++ flags)) (queue ++ lines)

  -- a selected line is among the next n lines, if fewer than n lines come before it
  any_behind : (n : ℕ) (queue : List X) (flags : List Bool) → length queue < n → any (take n (none_of queue ++ true ∷ flags)) ≡ true
  any_behind zero queue flags few = elim few [ ]
  any_behind (suc n) [] flags few = refl
  any_behind (suc n) (q ∷ queue) flags few = any_behind n queue flags (grind arith)

  none_among : (n : ℕ) (queue : List X) (flags : List Bool) → n ≤ length queue → any (take n (none_of queue ++ flags)) ≡ false
  none_among zero queue flags few = refl
  none_among (suc n) [] flags few = elim few [ ]
  none_among (suc n) (q ∷ queue) flags few = none_among n queue flags (grind arith)

  none_left : (n : ℕ) (queue : List X) → any (take n (none_of queue ++ [])) ≡ false
  none_left zero queue = refl
  none_left (suc n) [] = refl
  none_left (suc n) (q ∷ queue) = none_left n queue

  -- a line that isn't selected, by whether one is among the next ones
  abbrev passed : Bool → SeparatorState → List X → List Bool → X → List X → List ℕ
  passed soon b queue flags q lines =
      print_lines w print b ((if soon then Beside else Hidden) ∷ roles_from before after 0 (none_of queue ++ flags)) (q ∷ (queue ++ lines))

  last_behind : (queue : List X) → after_queue LastPrinted queue ≡ LastPrinted
  last_behind [] = refl
  last_behind (q ∷ queue) = refl

  joined : (a b c d : List ℕ) → a ++ (b ++ (c ++ d)) ≡ (a ++ (b ++ c)) ++ d
  joined a b c d = Prim.search (rules, common_steps)

  -- the selected line prints the queue and then itself
  pub selects : (b : SeparatorState) (queue : List X) (flags : List Bool) (line : X) (lines : List X) → length queue ≤ before →
      rest b 0 queue (true ∷ flags) (line ∷ lines)
      ≡ queued w print b queue ++ (parting w (after_queue b queue) ++ (print Selected line ++ rest LastPrinted after [] flags lines))
  selects b [] flags line lines few = refl
  selects b (q ∷ queue) flags line lines few =
      ap (λ soon. passed soon b queue (true ∷ flags) q (line ∷ lines)) (any_behind before queue flags (grind arith))
      ∙ ap (λ tail. parting w b ++ (print Beside q ++ tail)) (selects LastPrinted queue flags line lines (grind arith))
      ∙ ap (λ known. parting w b ++ (print Beside q ++ (queued w print LastPrinted queue ++ (parting w known
      ++ (print Selected line ++ rest LastPrinted after [] flags lines))))) (last_behind queue)
      ∙ joined (parting w b) (print Beside q) (queued w print LastPrinted queue)
      (parting w LastPrinted ++ (print Selected line ++ rest LastPrinted after [] flags lines))

  -- if lines are still owed to the last selected one, none waits, and the line is printed at once
  pub selects_soon : (b : SeparatorState) (left : ℕ) (flags : List Bool) (line : X) (lines : List X) →
      rest b left [] (true ∷ flags) (line ∷ lines) ≡ parting w b ++ (print Selected line ++ rest LastPrinted after [] flags lines)
  selects_soon b left flags line lines = refl

  pub stands_beside : (b : SeparatorState) (left : ℕ) (flags : List Bool) (line : X) (lines : List X) →
      rest b (suc left) [] (false ∷ flags) (line ∷ lines) ≡ parting w b ++ (print Beside line ++ rest LastPrinted left [] flags lines)
  stands_beside b left flags line lines = refl

  none_more : (queue : List X) (line : X) (flags : List Bool) → none_of (queue ++ line ∷ []) ++ flags ≡ none_of queue ++ false ∷ flags
  none_more [] line flags = refl
  none_more (q ∷ queue) line flags = ap (λ fs. false ∷ fs) (none_more queue line flags)

  one_more : (queue : List X) (line : X) (lines : List X) → (queue ++ line ∷ []) ++ lines ≡ queue ++ line ∷ lines
  one_more [] line lines = refl
  one_more (q ∷ queue) line lines = ap (λ ls. q ∷ ls) (one_more queue line lines)

  -- else a line that isn't selected waits
  pub waits : (b : SeparatorState) (queue : List X) (flags : List Bool) (line : X) (lines : List X) →
      rest b 0 queue (false ∷ flags) (line ∷ lines) ≡ rest b 0 (queue ++ line ∷ []) flags lines
  waits b queue flags line lines =
      sym (ap₂ (λ fs ls. print_lines w print b (roles_from before after 0 fs) ls) (none_more queue line flags) (one_more queue line lines))

  -- and the first one that waits isn't printed, if enough come after it
  pub forgets : (b : SeparatorState) (q : X) (queue : List X) (flags : List Bool) (lines : List X) → before ≤ length queue →
      rest b 0 (q ∷ queue) flags lines ≡ rest (after_hidden b) 0 queue flags lines
  forgets b q queue flags lines many = ap (λ soon. passed soon b queue flags q lines) (none_among before queue flags many)

  -- at the end of the haystack none that waits is printed
  pub ends : (b : SeparatorState) (queue : List X) → rest b 0 queue [] [] ≡ []
  ends b [] = refl
  ends b (q ∷ queue) =
      ap (λ soon. passed soon b queue [] q []) (none_left before queue) ∙ ends (after_hidden b) queue

  pub ends_soon : (b : SeparatorState) (left : ℕ) → rest b left [] [] [] ≡ []
  ends_soon b left = refl

  -- the selected line, whether lines wait or are still owed
  pub selects_any : (b : SeparatorState) (left : ℕ) (queue : List X) (flags : List Bool) (line : X) (lines : List X) →
      length queue ≤ before →
      (left ≡ 0) ⊎ (queue ≡ []) →
      rest b left queue (true ∷ flags) (line ∷ lines)
      ≡ queued w print b queue ++ (parting w (after_queue b queue) ++ (print Selected line ++ rest LastPrinted after [] flags lines))
  selects_any b left queue flags line lines few (inl none) =
      ap (λ n. rest b n queue (true ∷ flags) (line ∷ lines)) none ∙ selects b queue flags line lines few
  selects_any b left queue flags line lines few (inr empty) =
      ap (λ q. rest b left q (true ∷ flags) (line ∷ lines)) empty
      ∙ selects_soon b left flags line lines
      ∙ sym (ap (λ q. queued w print b q ++ (parting w (after_queue b q)
      ++ (print Selected line ++ rest LastPrinted after [] flags lines))) empty)

  -- lines that aren't selected wait, one after the other
  wait_all : (b : SeparatorState) (queue next : List X) (flags : List Bool) (lines : List X) →
      rest b 0 queue (none_of next ++ flags) (next ++ lines) ≡ rest b 0 (queue ++ next) flags lines
  wait_all b queue [] flags lines = ap (λ q. rest b 0 q flags lines) (sym (append-nil queue))
  wait_all b queue (x ∷ next) flags lines =
      waits b queue (none_of next ++ flags) x (next ++ lines)
      ∙ wait_all b (queue ++ x ∷ []) next flags lines
      ∙ ap (λ q. rest b 0 q flags lines) (append_assoc queue (x ∷ []) next)

  -- and the first ones aren't printed, if enough come after them
  forgets_all : (b : SeparatorState) (front last : List X) (flags : List Bool) (lines : List X) → before ≤ length last →
      rest b 0 (front ++ last) flags lines ≡ rest (known_after b (length front)) 0 last flags lines
  forgets_all b [] last flags lines many = refl
  forgets_all b (q ∷ front) last flags lines many =
      forgets b q (front ++ last) flags lines (omega (arith, many, length-append front last))
      ∙ forgets_all (after_hidden b) front last flags lines many
      ∙ ap (λ k. rest k 0 last flags lines) (known_again b (length front))

  -- so of lines that aren't selected the last ones alone count, if they are as many as are printed before a selected one
  pub passes : (b : SeparatorState) (queue front last : List X) (flags : List Bool) (lines : List X) → before ≤ length last →
      rest b 0 queue (none_of front ++ (none_of last ++ flags)) (front ++ (last ++ lines))
      ≡ rest (known_after b (length queue + length front)) 0 [] (none_of last ++ flags) (last ++ lines)
  passes b queue front last flags lines many =
      wait_all b queue front (none_of last ++ flags) (last ++ lines)
      ∙ wait_all b (queue ++ front) last flags lines
      ∙ forgets_all b (queue ++ front) last flags lines many
      ∙ ap (λ n. rest (known_after b n) 0 last flags lines) (length-append queue front)
      ∙ sym (wait_all (known_after b (length queue + length front)) [] last flags lines)
