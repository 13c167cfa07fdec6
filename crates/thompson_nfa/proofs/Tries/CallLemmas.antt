-- One call of a closure at a sequence, before those at the others.
use Rattle.std.proofs.Common.{◌≡◌, ◌⊎◌, inl, inr, ℕ, List, [], ◌∷◌, ◌++◌, map, Result, Ok, Err, OnOk, IfErr, Vec, Global, Bor, refl, sym}
use Rattle.std.proofs.Common.{ap, ◌∙◌, subst}
use Rattle.std.proofs.lemmas.Result.{on_ok_weaker}
use Rattle.hir_core.specs.declared.utf8_sequences.Utf8Range.{Utf8Range}
use Rattle.hir_core.specs.Sequences.{bytes_of}
use Rattle.thompson_nfa.specs.RangeWalks.{paths_of, path_then}
use Rattle.thompson_nfa.specs.RangeCalls.{CallsAll, CallsUpTo}

module _ {F E : Type 0} (step : F → Bor (List Utf8Range) → Result (Unit {0}) E → F →
    Type 0) (f g : F) (rest others : List (Vec Utf8Range Global)) (path : Vec Utf8Range Global)
    (is : rest ≡ path ∷ others) (shown : Bor (List Utf8Range)) (shows : shown.now ≡ path.items) where
  here : map bytes_of shown.now ≡ map bytes_of path.items
  here = ap (map bytes_of) shows

  pub calls_more : step f shown (Ok tt) g → CallsAll step g (paths_of others) → CallsAll step f (paths_of rest)
  calls_more s all = subst (λ (xs : List (Vec Utf8Range Global)). CallsAll step f (paths_of xs)) (sym is) (
    all.0,
    (g, (shown, here, s), all.1),
  )

  pub calls_up_to : (e : E) → step f shown (Ok tt) g → CallsUpTo step g (paths_of others) e → CallsUpTo step f (paths_of rest) e
  calls_up_to e s up = subst (λ (xs : List (Vec Utf8Range Global)). CallsUpTo step f (paths_of xs) e) (sym is) (inr (
    g,
    (shown, here, s),
    up,
  ))

  pub calls_refused : (e : E) → step f shown (Err e) g → CallsUpTo step f (paths_of rest) e
  calls_refused e s = subst (λ (xs : List (Vec Utf8Range Global)). CallsUpTo step f (paths_of xs) e) (sym is) (inl (shown, g, here, s))

-- no path comes before the sequences
pub after_nothing : (qs : List (List (ℕ × ℕ))) → path_then [] qs ≡ qs
after_nothing [] = refl
after_nothing (q ∷ qs) = ap (λ xs. q ∷ xs) (after_nothing qs)

-- what is emitted after no path, with nothing before
pub paths_whole : (old : List (Vec Utf8Range Global)) (path : List Utf8Range) (now qs all : List (List (ℕ × ℕ))) →
    now ≡ paths_of old ++ path_then (map bytes_of path) qs →
    old ≡ [] → path ≡ [] → qs ≡ all → now ≡ all
paths_whole old path now qs all e a b f =
    e ∙ ap (λ x. paths_of x ++ path_then (map bytes_of path) qs) a ∙ ap (λ x. path_then (map bytes_of x) qs) b ∙ after_nothing qs ∙ f

-- the calls of the last function, at equal sequences
pub calls_all_if : {F E : Type 0} → (step : F → Bor (List Utf8Range) → Result (Unit {0}) E → F →
    Type 0) (f : F) (qs ps : List (List (ℕ × ℕ))) → qs ≡ ps → (r : Result (Unit {0}) E) →
    OnOk r (CallsAll step f qs) → OnOk r (CallsAll step f ps)
calls_all_if step f qs ps e r h = on_ok_weaker r (λ all. subst (λ (xs : List (List (ℕ × ℕ))). CallsAll step f xs) e all) h

pub calls_up_to_if : {F E : Type 0} → (step : F → Bor (List Utf8Range) → Result (Unit {0}) E → F →
    Type 0) (f : F) (qs ps : List (List (ℕ × ℕ))) → qs ≡ ps → (Other : E → Type 0) →
    (r : Result (Unit {0}) E) → IfErr r (λ e. CallsUpTo step f qs e) → IfErr r (λ e. CallsUpTo step f ps e ⊎ Other e)
calls_up_to_if step f qs ps e Other (Ok x) h = h
calls_up_to_if step f qs ps e Other (Err x) h = inl (subst (λ (xs : List (List (ℕ × ℕ))). CallsUpTo step f xs x) e h)
