-- An input reads in one way, or it has one first fault, and not both.
use Rattle.std.proofs.Common.{◌≡◌, ◌≢◌, ℕ, ◌+◌, List, [], ◌∷◌, ◌++◌, length, Some, refl, sym, ◌∙◌, ap}
use Rattle.std.proofs.lemmas.List.Elements.{All-head, All-tail}
use Rattle.hirscan.specs.declared.fault.FaultKind.{FaultKind}
use Rattle.hirscan.specs.declared.fault.FaultKind.TheVariants.{NoFindLine}
use Rattle.hirscan.specs.Words.{words}
use Rattle.hirscan.specs.Takes.{QueryValue, Takes, EndsQuery}
use Rattle.hirscan.specs.LineFault.{fault}
use Rattle.hirscan.specs.Reads.{IsOneLine, Reads, reads_find, reads_line, IsFaultAt, no_line_feed, faulty_line, faulty_later}
use Rattle.hirscan.proofs.EffectLemmas.{takes_no_fault, ends_no_fault, one_effect, taken_goes_on}

abbrev IsOther : ℕ → Type 0
IsOther b = b ≢ 10

-- an input has one first line
cut_once : (a b x y : List ℕ) → a ++ 10 ∷ x ≡ b ++ 10 ∷ y → IsOneLine a → IsOneLine b → (a ≡ b) × (x ≡ y)
cut_once [] [] x y e h k = (refl, cc)
cut_once [] (c ∷ b) x y e h k = absurd (All-head IsOther c b k cc)
cut_once (c ∷ a) [] x y e h k = absurd (All-head IsOther c a h cc)
cut_once (c ∷ a) (d ∷ b) x y e h k =
    let same : c ≡ d = cc in
    let others = cut_once a b x y (cc) (All-tail IsOther c a h) (All-tail IsOther d b k) in
    (ap (λ t. c ∷ t) others.0 ∙ ap (λ z. z ∷ b) same, others.1)

cut_in_line : (a x : List ℕ) → IsOneLine (a ++ 10 ∷ x) → ⊥
cut_in_line [] x h = All-head IsOther 10 x h refl
cut_in_line (c ∷ a) x h = cut_in_line a x (All-tail IsOther c (a ++ 10 ∷ x) h)

no_cut : (text a x : List ℕ) → IsOneLine text → text ≡ a ++ 10 ∷ x → ⊥
no_cut text a x h e = cut_in_line a x (rw e at h)

same_cut : (text a b x y : List ℕ) → text ≡ a ++ 10 ∷ x → text ≡ b ++ 10 ∷ y → IsOneLine a → IsOneLine b → (b ≡ a) × (y ≡ x)
same_cut text a b x y e f h k = cut_once b a y x (sym f ∙ e) k h

-- the input whose first line is this
module _ (text line rest : List ℕ) (at : QueryValue) (cut : text ≡ line ++ 10 ∷ rest) (one : IsOneLine line) where
  reads_at_end : (ys : QueryValue) (m : ℕ) → EndsQuery (words line) at → Reads text at ys m → (at ≡ ys) × (length line + 1 ≡ m)
  reads_at_end ys m ends (reads_find _ l r _ _ _ e o f p n) =
      let c = same_cut text line l rest r cut e one o in (sym p, ap (λ t. length t + 1) (sym c.0) ∙ sym n)
  reads_at_end ys m ends (reads_line _ l r _ there _ _ k e o f g n) =
      let c = same_cut text line l rest r cut e one o in
      absurd (taken_goes_on (words line) at there (rw c.0 at f) ends)

  reads_behind : (there ys : QueryValue) (m : ℕ) → Takes (words line) at there → Reads text at ys m
      → (k : ℕ) × Reads rest there ys k × (m ≡ length line + 1 + k)
  reads_behind there ys m taken (reads_find _ l r _ _ _ e o f p n) =
      let c = same_cut text line l rest r cut e one o in
      absurd (taken_goes_on (words line) at there taken (rw c.0 at f))
  reads_behind there ys m taken (reads_line _ l r _ other _ _ k e o f g n) =
      let c = same_cut text line l rest r cut e one o in
      let s = one_effect (words line) at other there (rw c.0 at f) taken in
      (k, rw (c.1, s) at g, rw c.0 at n)

  no_fault_at_end : (k : ℕ) (kind : FaultKind) → EndsQuery (words line) at → IsFaultAt text at k kind → ⊥
  no_fault_at_end k kind ends (no_line_feed _ _ _ _ o f g) = no_cut text line rest o cut
  no_fault_at_end k kind ends (faulty_line _ l r _ _ _ e o f g) =
      let c = same_cut text line l rest r cut e one o in
      let h = rw c.0 at f in let none = ends_no_fault (words line) at ends in cc (h, none)
  no_fault_at_end k kind ends (faulty_later _ l r _ there _ m _ e o f g h) =
      let c = same_cut text line l rest r cut e one o in
      taken_goes_on (words line) at there (rw c.0 at f) ends

  fault_behind : (there : QueryValue) (k : ℕ) (kind : FaultKind) → Takes (words line) at there → IsFaultAt text at k kind
      → (m : ℕ) × IsFaultAt rest there m kind × (k ≡ m + 1)
  fault_behind there k kind taken (no_line_feed _ _ _ _ o f g) = absurd (no_cut text line rest o cut)
  fault_behind there k kind taken (faulty_line _ l r _ _ _ e o f g) =
      let c = same_cut text line l rest r cut e one o in
      let h = rw c.0 at f in let none = takes_no_fault (words line) at there taken in absurd (cc (h, none))
  fault_behind there k kind taken (faulty_later _ l r _ other _ m _ e o f g h) =
      let c = same_cut text line l rest r cut e one o in
      let s = one_effect (words line) at other there (rw c.0 at f) taken in
      (m, rw (c.1, s) at g, h)

  fault_here : (kind other : FaultKind) (k : ℕ) → fault (words line) at ≡ Some kind → IsFaultAt text at k other → (1 ≡ k) × (kind ≡ other)
  fault_here kind other k found (no_line_feed _ _ _ _ o f g) = absurd (no_cut text line rest o cut)
  fault_here kind other k found (faulty_line _ l r _ _ _ e o f g) =
      let c = same_cut text line l rest r cut e one o in
      let h = rw c.0 at f in (sym g, cc (h, found))
  fault_here kind other k found (faulty_later _ l r _ there _ m _ e o f g h) =
      let c = same_cut text line l rest r cut e one o in
      let none = takes_no_fault (words line) at there (rw c.0 at f) in absurd (cc (none, found))

fault_without_feed : (text : List ℕ) (at : QueryValue) (k : ℕ) (kind : FaultKind) → IsOneLine text → IsFaultAt text at k kind
    → (1 ≡ k) × (NoFindLine ≡ kind)
fault_without_feed text at k kind one (no_line_feed _ _ _ _ o f g) = (sym f, sym g)
fault_without_feed text at k kind one (faulty_line _ l r _ _ _ e o f g) = absurd (no_cut text l r one e)
fault_without_feed text at k kind one (faulty_later _ l r _ there _ m _ e o f g h) = absurd (no_cut text l r one e)

pub reads_once : (text : List ℕ) (at xs ys : QueryValue) (n m : ℕ) → Reads text at xs n → Reads text at ys m → (xs ≡ ys) × (n ≡ m)
reads_once text at xs ys n m (reads_find _ l r _ _ _ e o f p q) h =
    let s = reads_at_end text l r at e o ys m f h in (p ∙ s.0, q ∙ s.1)
reads_once text at xs ys n m (reads_line _ l r _ there _ _ k e o f g q) h =
    let s = reads_behind text l r at e o there ys m f h in
    let t = reads_once r there xs ys k s.0 g s.1 in
    (t.0, q ∙ (ap (λ j. length l + 1 + j) t.1 ∙ sym s.2))

pub reads_no_fault : (text : List ℕ) (at xs : QueryValue) (n k : ℕ) (kind : FaultKind) → Reads text at xs n → IsFaultAt text at k kind → ⊥
reads_no_fault text at xs n k kind (reads_find _ l r _ _ _ e o f p q) h = no_fault_at_end text l r at e o k kind f h
reads_no_fault text at xs n k kind (reads_line _ l r _ there _ _ j e o f g q) h =
    let s = fault_behind text l r at e o there k kind f h in
    reads_no_fault r there xs j s.0 kind g s.1

pub fault_once : (text : List ℕ) (at : QueryValue) (k l : ℕ) (kind other : FaultKind) → IsFaultAt text at k kind → IsFaultAt text at l other
    → (k ≡ l) × (kind ≡ other)
fault_once text at k l kind other (no_line_feed _ _ _ _ o f g) h =
    let s = fault_without_feed text at l other o h in (f ∙ s.0, g ∙ s.1)
fault_once text at k l kind other (faulty_line _ a r _ _ _ e o f g) h =
    let s = fault_here text a r at e o kind other l f h in (g ∙ s.0, s.1)
fault_once text at k l kind other (faulty_later _ a r _ there _ m _ e o f g i) h =
    let s = fault_behind text a r at e o there l other f h in
    let t = fault_once r there m s.0 kind other g s.1 in
    (i ∙ (ap (λ j. j + 1) t.0 ∙ sym s.2), t.1)
