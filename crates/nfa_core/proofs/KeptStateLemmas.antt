-- The states of an automaton, made one by one from a builder's states.
use Rattle.std.proofs.Common.{◌≡◌, ℕ, ◌+◌, ◌<◌, ◌≤◌, false, true, List, [], ◌∷◌, ◌++◌, length, map, take, get_or, Option, Some, None, refl}
use Rattle.std.proofs.Common.{sym, ap, ◌∙◌, arith, inr, subst}
use Rattle.std.proofs.lemmas.List.{reverse-append}
use Rattle.std.specs.Prelude.{reverse, is_some, is_none, unwrap_or, All}
use Rattle.std.proofs.lemmas.List.{length-map, get_or-map, take_more, map-append, append-nil}
use Rattle.std.proofs.lemmas.List.Elements.{filter-append}
use Rattle.search_core.specs.Index.{greatest_index}
use Rattle.search_types.specs.Groups.{Groups, slot, slot_len}
use Rattle.search_types.proofs.ForCallers.{slot_in_range}
use Rattle.nfa_core.specs.Nfa.{Node}
use Rattle.nfa_core.specs.BuilderStates.{DraftNode, fail_draft}
use Rattle.nfa_core.specs.Renaming.{stands_for, kept}
use Rattle.nfa_core.proofs.NamingLemmas.{is_kept}

-- both slots of a group have numbers
room_by : (gs : Groups) (p g : ℕ) (o : Option ℕ) → slot gs p g ≡ o → is_some o ≡ true → slot_len gs ≤ greatest_index →
    unwrap_or o 0 + 1 ≤ greatest_index
room_by gs p g None e there most = cc
room_by gs p g (Some first) e there most = let h = slot_in_range gs (first + 1) p g (first, e, inr refl) in omega (arith, h, most)

pub slot_room : (gs : Groups) (p g : ℕ) → is_some (slot gs p g) ≡ true → slot_len gs ≤ greatest_index →
    unwrap_or (slot gs p g) 0 + 1 ≤ greatest_index
slot_room gs p g there most = room_by gs p g (slot gs p g) refl there most

-- what holds of all images in a list holds for each member of the list
pub all_of_map : {A B : Type 0} (P : B → Type 0) (f : A → B) (xs : List A) → All P (map f xs) → All (λ x. P (f x)) xs
all_of_map P f xs all k d inside =
    let len = length-map xs f in
    subst P (get_or-map f xs k d (f d) inside) (all k (f d) (omega (arith, inside, len)))

pub holds_at : {D : Type 0} (P : DraftNode → Type 0) (view : D → DraftNode) (drafts : List D) (i : ℕ) (draft : D) → i < length drafts →
    draft ≡ get_or drafts i draft → All P (map view drafts) → P (view draft)
holds_at P view drafts i draft inside there all = subst (λ d. P (view d)) (sym there) (all_of_map P view drafts all i draft inside)

-- one more state, which is kept or not
kept_next : {D : Type 0} (view : D → DraftNode) (drafts : List D) (i : ℕ) (draft : D) → i < length drafts → draft ≡ get_or drafts i draft →
    kept (take (i + 1) (map view drafts)) ≡ kept (take i (map view drafts)) ++ kept (view draft ∷ [])
kept_next view drafts i draft inside there =
    let len = length-map drafts view in
    let inside' : i < length (map view drafts) = omega (arith, inside, len) in
    let seen : get_or (map view drafts) i fail_draft ≡ view draft = get_or-map view drafts i draft fail_draft inside
    ∙ ap view (sym there) in
    ap kept (take_more (map view drafts) i fail_draft inside') ∙ filter-append is_kept (take i (map view drafts))
    (get_or (map view drafts) i fail_draft ∷ [])
    ∙ ap (λ draft. kept (take i (map view drafts)) ++ kept (draft ∷ [])) seen

none_of : (o : Option ℕ) → is_some o ≡ true → is_none o ≡ false
none_of None e = sym e
none_of (Some q) e = refl

one_of : (o : Option ℕ) → is_some o ≡ false → is_none o ≡ true
one_of None e = refl
one_of (Some q) e = sym e

pub kept_skips : {D : Type 0} (view : D → DraftNode) (drafts : List D) (i : ℕ) (draft : D) → i < length drafts →
    draft ≡ get_or drafts i draft → is_some (stands_for (view draft)) ≡ true →
    kept (take (i + 1) (map view drafts)) ≡ kept (take i (map view drafts))
kept_skips view drafts i draft inside there stands =
    let gone : kept (view draft ∷ []) ≡ [] = rw (none_of (stands_for (view draft)) stands) in
    kept_next view drafts i draft inside there ∙ ap (λ xs. kept (take i (map view drafts)) ++ xs) gone
    ∙ append-nil (kept (take i (map view drafts)))

pub kept_takes : {D : Type 0} (view : D → DraftNode) (drafts : List D) (i : ℕ) (draft : D) → i < length drafts →
    draft ≡ get_or drafts i draft → is_some (stands_for (view draft)) ≡ false →
    kept (take (i + 1) (map view drafts)) ≡ kept (take i (map view drafts)) ++ view draft ∷ []
kept_takes view drafts i draft inside there stays =
    let one : kept (view draft ∷ []) ≡ view draft ∷ [] = rw (one_of (stands_for (view draft)) stays) in
    kept_next view drafts i draft inside there ∙ ap (λ xs. kept (take i (map view drafts)) ++ xs) one

pub states_more : {S D : Type 0} (node : S → Node) (view : D → DraftNode) (become : DraftNode →
    Node) (states new : List S) (state : S) (drafts : List D) (i : ℕ) (draft : D) →
    new ≡ states ++ state ∷ [] → node state ≡ become (view draft) → i < length drafts → draft ≡ get_or drafts i draft →
    is_some (stands_for (view draft)) ≡ false →
    map node states ≡ map become (kept (take i (map view drafts))) → map node new ≡ map become (kept (take (i + 1) (map view drafts)))
states_more node view become states new state drafts i draft pushed e inside there stays so_far =
    ap (map node) pushed ∙ map-append node states (state ∷ []) ∙ ap (λ xs. xs ++ node state ∷ []) so_far
    ∙ ap (λ x. map become (kept (take i (map view drafts))) ++ x ∷ []) e
    ∙ sym (ap (map become) (kept_takes view drafts i draft inside there stays)
    ∙ map-append become (kept (take i (map view drafts))) (view draft ∷ []))

pub states_skip : {S D : Type 0} (node : S → Node) (view : D → DraftNode) (become : DraftNode →
    Node) (states : List S) (drafts : List D) (i : ℕ) (draft : D) →
    i < length drafts → draft ≡ get_or drafts i draft → is_some (stands_for (view draft)) ≡ true →
    map node states ≡ map become (kept (take i (map view drafts))) → map node states ≡ map become (kept (take (i + 1) (map view drafts)))
states_skip node view become states drafts i draft inside there stands so_far =
    so_far ∙ sym (ap (map become) (kept_skips view drafts i draft inside there stands))

pub map_reversed : {A B : Type 0} (f : A → B) (xs : List A) → map f (reverse xs) ≡ reverse (map f xs)
map_reversed f [] = refl
map_reversed f (x ∷ xs) =
    ap (map f) (reverse-append (x ∷ []) xs) ∙ map-append f (reverse xs) (x ∷ []) ∙ ap (λ ys. ys ++ f x ∷ []) (map_reversed f xs)
    ∙ sym (reverse-append (f x ∷ []) (map f xs))
