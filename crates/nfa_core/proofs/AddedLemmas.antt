-- The errors of adding one more state or one more transition, and what loops that push leave.
use Rattle.std.proofs.Common.{◌≡◌, ℕ, zero, suc, ◌+◌, ◌-◌, ◌<◌, ◌≤◌, List, [], ◌∷◌, ◌++◌, map, length, take, drop, get_or}
use Rattle.std.proofs.Common.{◌∙◌, arith, min, true, false, if◌then◌else◌, le-ltb, Option, Some, None, Result, Ok, Err}
use Rattle.std.proofs.Common.{sym, ap, subst, length-append, length-drop}
use Rattle.std.specs.Prelude.{MatchResult, MatchOption, ⊤, OnErr, IsErrAnd}
use Rattle.std.specs.Option.{option_or}
use Rattle.std.specs.List.{sum_by}
use Rattle.std.proofs.lemmas.Bool.{lt-ltb}
use Rattle.std.proofs.lemmas.List.{map-append, length-map, take_more, drop_more, drop_all}
use Rattle.search_core.specs.Index.{greatest_index}
use Rattle.nfa_core.specs.BuilderStates.{Assembly, DraftNode, with_draft, bytes_of_drafts, draft_bytes, way_bytes, draft_at, patched_at}
use Rattle.nfa_core.specs.BuilderFaults.{add_fault, limit_fault, patch_fault, too_many_states}
use Rattle.nfa_core.proofs.BuilderLemmas.{bytes_pushed, bytes_patched}
use Rattle.nfa_core.proofs.OrderLemmas.{limit_holds}

-- an error that is returned as it is
pub refused : {A E : Type 0} (P : A → Type 0) (Q : E → Type 0) (r : Result A E) (e : E) → IsErrAnd r (λ x. x ≡ e) → Q e → MatchResult r P Q
refused P Q (Ok a) e is q = absurd is
refused P Q (Err x) e is q = subst Q (sym is) q

-- an error ensures nothing of a success
pub on_err : {A E X : Type 0} (r : Result A E) → X → OnErr r X
on_err (Ok a) x = tt
on_err (Err e) x = x

-- ---- one more state

pub no_name : (b : Assembly) (draft : DraftNode) (n : ℕ) → n ≡ length b.drafts → greatest_index < n →
    add_fault b draft ≡ Some too_many_states
no_name b draft n e more =
    ap (λ t. option_or (if t then Some too_many_states else None) (limit_fault b.size_limit (bytes_of_drafts (b.drafts ++ draft ∷ []))))
    (lt-ltb greatest_index (length b.drafts) (subst (λ (k : ℕ). greatest_index < k) e more))

pub bytes_added : {D : Type 0} (view : D → DraftNode) (drafts : List D) (draft : DraftNode) (old own new : ℕ) →
    new ≡ min (old + own) 18446744073709551615 → old ≡ bytes_of_drafts (map view drafts) →
    own ≡ min (draft_bytes draft) 18446744073709551615 →
    new ≡ bytes_of_drafts (map view drafts ++ draft ∷ [])
bytes_added view drafts draft old own new sum was one =
    sum
    ∙ (ap (λ (m : ℕ). min (m + own) 18446744073709551615) was
    ∙ (ap (λ (n : ℕ). min (bytes_of_drafts (map view drafts) + n) 18446744073709551615) one
    ∙ bytes_pushed (map view drafts) draft))

pub fault_in_room : {D : Type 0} (view : D → DraftNode) (drafts : List D) (draft : DraftNode) (b : Assembly)
    (limit : Option ℕ) (bytes : ℕ) →
    map view drafts ≡ b.drafts → limit ≡ b.size_limit → length drafts ≤ greatest_index →
    bytes ≡ bytes_of_drafts (map view drafts ++ draft ∷ []) →
    add_fault b draft ≡ limit_fault limit bytes
fault_in_room view drafts draft b limit bytes seen same room sum =
    let below : length b.drafts ≤ greatest_index =
    subst (λ (n : ℕ). n ≤ greatest_index) (sym (length-map drafts view) ∙ ap length seen) room in
    ap (λ t. option_or (if t then Some too_many_states else None) (limit_fault b.size_limit (bytes_of_drafts (b.drafts ++ draft ∷ []))))
    (le-ltb greatest_index (length b.drafts) below)
    ∙ (ap (λ l. limit_fault l (bytes_of_drafts (b.drafts ++ draft ∷ []))) (sym same)
    ∙ ap (limit_fault limit) (ap (λ l. bytes_of_drafts (l ++ draft ∷ [])) (sym seen) ∙ sym sum))

-- ---- one more transition

pub way_added : (drafts : List DraftNode) (from to old own new : ℕ) → from < length drafts →
    new ≡ min (old + own) 18446744073709551615 → old ≡ bytes_of_drafts drafts → own ≡ way_bytes (draft_at drafts from) →
    new ≡ bytes_of_drafts (patched_at drafts from to)
way_added drafts from to old own new inside sum was one =
    sum
    ∙ (ap (λ (m : ℕ). min (m + own) 18446744073709551615) was
    ∙ (ap (λ (n : ℕ). min (bytes_of_drafts drafts + n) 18446744073709551615) one
    ∙ bytes_patched drafts from to inside))

-- the builder's states as they were, with one more, and with one that was changed
pub drafts_kept : (old now : Assembly) (new : List DraftNode) → old ≡ now → new ≡ old.drafts → record old { drafts = new } ≡ now
drafts_kept old now new e same = ap (λ (l : List DraftNode). record old { drafts = l }) same ∙ e

pub drafts_added : (old now : Assembly) (new : List DraftNode) (draft : DraftNode) → old ≡ now → new ≡ old.drafts ++ draft ∷ [] →
    record old { drafts = new } ≡ with_draft now draft
drafts_added old now new draft e pushed =
    ap (λ (l : List DraftNode). record old { drafts = l }) pushed ∙ ap (λ (b : Assembly). with_draft b draft) e

pub drafts_patched : (old now : Assembly) (new : List DraftNode) (from to : ℕ) → old ≡ now → new ≡ patched_at old.drafts from to →
    record old { drafts = new } ≡ record now { drafts = patched_at now.drafts from to }
drafts_patched old now new from to e patched =
    ap (λ (l : List DraftNode). record old { drafts = l }) patched
    ∙ ap (λ (b : Assembly). record b { drafts = patched_at b.drafts from to }) e

pub way_fault : (old now : Assembly) (from to bytes : ℕ) → old ≡ now → bytes ≡ bytes_of_drafts (patched_at old.drafts from to) →
    patch_fault now from to ≡ limit_fault old.size_limit bytes
way_fault old now from to bytes e sum = ap (λ (b : Assembly). patch_fault b from to) (sym e) ∙ ap (limit_fault old.size_limit) (sym sum)

capped_none : (m s w : ℕ) → w ≡ 0 → min (min s m + w) m ≡ min s m
capped_none m s w none = grind arith

-- a transition that takes no bytes exceeds no limit
pub free_way : (drafts : List DraftNode) (limit : Option ℕ) (old own new : ℕ) → new ≡ min (old + own) 18446744073709551615 →
    old ≡ bytes_of_drafts drafts → own ≡ 0 → MatchOption limit ⊤ (λ most. bytes_of_drafts drafts ≤ most) → limit_fault limit new ≡ None
free_way drafts limit old own new sum was none within =
    ap (limit_fault limit)
    (sum ∙ ap (λ (m : ℕ). min (m + own) 18446744073709551615) was ∙ capped_none 18446744073709551615 (sum_by draft_bytes drafts) own none)
    ∙ limit_holds limit (bytes_of_drafts drafts) within

pub never : false ≡ true → ⊥
never e = cc

-- ---- loops that push

pub mapped_more : {A B : Type 0} (f : A → B) (old new : List B) (xs : List A) (i : ℕ) (x : A) (y : B) → i < length xs →
    x ≡ get_or xs i x → y ≡ f x → old ≡ map f (take i xs) → new ≡ old ++ y ∷ [] → new ≡ map f (take (i + 1) xs)
mapped_more f old new xs i x y inside is same so_far pushed =
    pushed ∙ ap (λ o. o ++ y ∷ []) so_far ∙ ap (λ z. map f (take i xs) ++ z ∷ []) (same ∙ ap f is)
    ∙ sym (ap (map f) (take_more xs i x inside) ∙ map-append f (take i xs) (get_or xs i x ∷ []))

pub seen_more : {S T B : Type 0} (see : S → B) (view : T → B) (g : B → B) (old new : List S) (xs : List T) (i : ℕ) (x : T) (y : S) →
    i < length xs → x ≡ get_or xs i x → see y ≡ g (view x) → map see old ≡ map g (map view (take i xs)) → new ≡ old ++ y ∷ [] →
    map see new ≡ map g (map view (take (i + 1) xs))
seen_more see view g old new xs i x y inside is same so_far pushed =
    ap (map see) pushed ∙ map-append see old (y ∷ []) ∙ ap (λ o. o ++ see y ∷ []) so_far
    ∙ ap (λ z. map g (map view (take i xs)) ++ z ∷ []) (same ∙ ap (λ z. g (view z)) is)
    ∙ sym (ap (λ l. map g (map view l)) (take_more xs i x inside) ∙ ap (map g) (map-append view (take i xs) (get_or xs i x ∷ []))
    ∙ map-append g (map view (take i xs)) (view (get_or xs i x) ∷ []))

pub seen_taken : {S T B : Type 0} (see : S → B) (view : T → B) (old new : List S) (xs : List T) (i : ℕ) (x : T) (y : S) →
    i < length xs → x ≡ get_or xs i x → see y ≡ view x → map see old ≡ map view (take i xs) → new ≡ old ++ y ∷ [] →
    map see new ≡ map view (take (i + 1) xs)
seen_taken see view old new xs i x y inside is same so_far pushed =
    ap (map see) pushed ∙ map-append see old (y ∷ []) ∙ ap (λ o. o ++ see y ∷ []) so_far
    ∙ ap (λ z. map view (take i xs) ++ z ∷ []) (same ∙ ap view is)
    ∙ sym (ap (map view) (take_more xs i x inside) ∙ map-append view (take i xs) (get_or xs i x ∷ []))

pub holds_of_item : {A : Type 0} (P : A → Type 0) (xs : List A) (i : ℕ) (x : A) → x ≡ get_or xs i x → P (get_or xs i x) → P x
holds_of_item P xs i x is h = subst P (sym is) h

-- ---- a loop from the last to the first

pub none_dropped : {A : Type 0} (ids start : List A) → start ≡ drop (length ids) ids ++ start
none_dropped ids start = ap (λ l. l ++ start) (sym (drop_all (length ids) ids (omega arith)))

before : (i : ℕ) → 0 < i → i ≡ i - 1 + 1
before i some = omega arith

below_before : (i n : ℕ) → 0 < i → i ≤ n → i - 1 < n
below_before i n some most = omega arith

pub one_stacked : {A : Type 0} (ids start old new : List A) (i : ℕ) (x : A) → 0 < i → i ≤ length ids → x ≡ get_or ids (i - 1) x →
    new ≡ x ∷ old → old ≡ drop i ids ++ start → new ≡ drop (i - 1) ids ++ start
one_stacked ids start old new i x some most is pushed so_far =
    pushed ∙ ap (λ o. x ∷ o) (so_far ∙ ap (λ k. drop k ids ++ start) (before i some))
    ∙ ap (λ z. z ∷ (drop (i - 1 + 1) ids ++ start)) is
    ∙ ap (λ l. l ++ start) (sym (drop_more ids (i - 1) x (below_before i (length ids) some most)))

fewer_of : (a c i n : ℕ) → a ≡ n - i + c → 0 < i → i ≤ n → a < n + c
fewer_of a c i n e some most = omega arith

pub fewer_stacked : {A : Type 0} (ids start now : List A) (i : ℕ) → 0 < i → i ≤ length ids → now ≡ drop i ids ++ start →
    length now < length ids + length start
fewer_stacked ids start now i some most e =
    fewer_of (length now) (length start) i (length ids)
    (ap length e ∙ length-append (drop i ids) start ∙ ap (λ n. n + length start) (length-drop i ids)) some most

pub all_stacked : {A : Type 0} (ids start now : List A) (i : ℕ) → i ≤ 0 → now ≡ drop i ids ++ start → now ≡ ids ++ start
all_stacked ids start now zero none e = e
all_stacked ids start now (suc i) none e = absurd (omega arith)
