-- A loop from a slice's last element to its first: what it has met is the end of the slice, reversed.
use Rattle.std.proofs.Common.{◌≡◌, List, [], ◌∷◌, ◌++◌, map, Option, None, ap, ◌∙◌}
use Rattle.std.specs.Prelude.{reverse}
use Rattle.std.specs.Iterator.{Yields}
use Rattle.std.specs.Iterator.Adapters.{rev_source, rev_steps}
use Rattle.std.specs.Slice.Iter.{iter_rest, iter_steps_back}
use Rattle.std.specs.declared.iter.Rev.{Rev}
use Rattle.std.specs.declared.slice.Iter.{Iter}
use Rattle.std.proofs.lemmas.List.{reverse-append, reverse-reverse, map-append}
use Rattle.std.proofs.lemmas.Iterator.Adapters.{YieldsList-from_rev_slice}
use Rattle.std.proofs.lemmas.Iterator.Consumers.{YieldsList-end}
use denote.Ref.{Bor}
use Rattle.hir_core.specs.Backward.{met_backward}

pub behind_more : {A : Type 0} (met : List (Bor A)) (x : Bor A) → met_backward (met ++ x ∷ []) ≡ x.now ∷ met_backward met
behind_more met x = ap reverse (map-append (λ y. y.now) met (x ∷ [])) ∙ reverse-append (map (λ y. y.now) met) (x.now ∷ [])

-- at the end all were met
pub behind_all : {A : Type 0} (subs : List A) (s t u : Rev (Iter A)) (met : List (Bor A)) (r : Option (Bor A)) →
    iter_rest (rev_source s) ≡ subs → Yields (rev_steps iter_steps_back) s met t → r ≡ None → rev_steps iter_steps_back t r u →
    met_backward met ≡ subs
behind_all subs s t u met r e y n p =
    ap reverse (YieldsList-end (YieldsList-from_rev_slice subs e) met t y r u n p).0 ∙ reverse-reverse subs
