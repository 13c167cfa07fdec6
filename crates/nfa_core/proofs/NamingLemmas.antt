-- The names that states get: how many states are kept before the one past them.
use Rattle.std.proofs.Common.{◌≡◌, ◌≢◌, ℕ, zero, suc, ◌+◌, ◌<◌, ◌≤◌, true, Bool, List, [], ◌∷◌, ◌++◌, length, map, take, get_or, Option}
use Rattle.std.proofs.Common.{Some, None, refl, sym, ap, ◌∙◌, arith, length-append, ⊎_elim, inl}
use Rattle.std.specs.Prelude.{is_none, unwrap_or}
use Rattle.std.proofs.lemmas.List.{length-map, get_or-map, take_more, get_or_push, get_or_append_left}
use Rattle.std.proofs.lemmas.Bool.{cases_eq}
use Rattle.std.proofs.lemmas.List.Elements.{filter-append}
use Rattle.nfa_core.specs.BuilderStates.{DraftNode, draft_at, fail_draft}
use Rattle.nfa_core.specs.Renaming.{stands_for, past_within, going_on, past, kept}
use Rattle.nfa_core.specs.Pasts.{HasPasts, IsPastTable, is_settled, IsNaming, IsRanking, name_in}
use Rattle.nfa_core.proofs.PastLemmas.{known_end}

abbrev pub is_kept : DraftNode → Bool
is_kept draft = is_none (stands_for draft)

-- the states past states are states
past_inside_by : (drafts : List DraftNode) (n q : ℕ) (o : Option ℕ) → q < length drafts → stands_for (draft_at drafts q) ≡ o →
    HasPasts drafts →
    ((next : ℕ) → next < length drafts → past_within drafts n next < length drafts) → going_on q (past_within drafts n) o < length drafts
past_inside_by drafts n q None inside e reached fewer = inside
past_inside_by drafts n q (Some next) inside e reached fewer = fewer next (reached.stays q next inside e)

past_within_inside : (drafts : List DraftNode) → HasPasts drafts → (n q : ℕ) → q < length drafts → past_within drafts n q < length drafts
past_within_inside drafts reached zero q inside = inside
past_within_inside drafts reached (suc n) q inside = past_inside_by drafts n q (stands_for (draft_at drafts q)) inside refl reached
    (past_within_inside drafts reached n)

pub past_inside : (drafts : List DraftNode) (q : ℕ) → HasPasts drafts → q < length drafts → past drafts q < length drafts
past_inside drafts q reached inside = past_within_inside drafts reached (length drafts) q inside

-- one more state
pub kept_more : (drafts : List DraftNode) (i : ℕ) (d : DraftNode) → i < length drafts →
    length (kept (take (i + 1) drafts)) ≡ length (kept (take i drafts)) + length (kept (get_or drafts i d ∷ []))
kept_more drafts i d inside =
    ap (λ xs. length (kept xs)) (take_more drafts i d inside)
    ∙ ap length (filter-append is_kept (take i drafts) (get_or drafts i d ∷ []))
    ∙ length-append (kept (take i drafts)) (kept (get_or drafts i d ∷ []))

-- a list of what a function gives for each index, with one more
pub pushed_at : (f : ℕ → ℕ) (xs new : List ℕ) (x i : ℕ) → new ≡ xs ++ x ∷ [] → length xs ≡ i → x ≡ f i →
    ((q : ℕ) → q < i → name_in xs q ≡ f q) →
    (q : ℕ) → q < i + 1 → name_in new q ≡ f q
pushed_at f xs new x i pushed len is before q below = ap (λ ys. name_in ys q) pushed ∙ ⊎_elim
    (λ (same : q ≡ i). get_or_push xs x 0 q (len ∙ sym same) ∙ is ∙ ap f (sym same))
    (λ (other : q ≢ i). let less : q < i = omega arith in get_or_append_left xs (x ∷ []) 0 q (omega (arith, less, len)) ∙ before q less)
    (cases_eq q i)

-- ranks of the states so far, and how many of them are kept
pub record IsRankingTo (drafts : List DraftNode) (ranks : List ℕ) (i count : ℕ) : Type 0 where
  pub len : length ranks ≡ i
  pub right : (q : ℕ) → q < i → name_in ranks q ≡ length (kept (take q drafts))
  pub counted : count ≡ length (kept (take i drafts))
  pub most : count ≤ i

pub ranking_more : {D : Type 0} (view : D → DraftNode) (drafts : List D) (ranks new : List ℕ) (i count more : ℕ) (draft : D) →
    i < length drafts → draft ≡ get_or drafts i draft →
    new ≡ ranks ++ count ∷ [] → more ≡ length (kept (view draft ∷ [])) → more ≤ 1 →
    IsRankingTo (map view drafts) ranks i count → IsRankingTo (map view drafts) new (i + 1) (count + more)
ranking_more view drafts ranks new i count more draft inside there pushed e one so_far =
    let len = length-map drafts view in
    let inside' : i < length (map view drafts) = omega arith in
    let seen : get_or (map view drafts) i fail_draft ≡ view draft = get_or-map view drafts i draft fail_draft inside
    ∙ ap view (sym there) in
    let next = kept_more (map view drafts) i fail_draft inside' in
    let last = ap (λ draft. length (kept (draft ∷ []))) seen in record {
      len = ap length pushed ∙ length-append ranks (count ∷ []) ∙ ap (λ k. k + 1) so_far.len;
      right = pushed_at (λ q. length (kept (take q (map view drafts)))) ranks new count i pushed so_far.len so_far.counted so_far.right;
      counted = omega (arith, next, last, e, so_far.counted);
      most = omega (arith, so_far.most, one);
    }

pub ranking_start : (drafts : List DraftNode) → IsRankingTo drafts [] 0 0
ranking_start drafts = record { len = refl; right = λ q below. absurd (omega (arith, below)); counted = refl; most = omega arith }

pub ranking_done : (drafts : List DraftNode) (ranks : List ℕ) (i count : ℕ) → length drafts ≤ i → i ≤ length drafts →
    IsRankingTo drafts ranks i count → IsRanking drafts ranks
ranking_done drafts ranks i count long short so_far = record {
  len = omega (arith, so_far.len);
  right = λ q inside. so_far.right q (omega (arith, inside));
}

-- the ranks of the states past all states are their names
pub settled_past : (drafts : List DraftNode) (table : List (Option ℕ)) (q : ℕ) → IsPastTable drafts table → is_settled table q ≡ true →
    unwrap_or (get_or table q None) q ≡ past drafts q
settled_past drafts table q reported there = known_end drafts table q reported (inl there)

pub past_is_inside : (drafts : List DraftNode) (table : List (Option ℕ)) (q : ℕ) → HasPasts drafts → IsPastTable drafts table →
    is_settled table q ≡ true → q < length drafts →
    unwrap_or (get_or table q None) q < length drafts
past_is_inside drafts table q reached reported there inside =
    let e = settled_past drafts table q reported there in
    let h = past_inside drafts q reached inside in omega (arith, e, h)

pub naming_done : (drafts : List DraftNode) (table : List (Option ℕ)) (ranks names : List ℕ) → HasPasts drafts → IsPastTable drafts table →
    ((q : ℕ) → q < length drafts → is_settled table q ≡ true) →
    IsRanking drafts ranks → length names ≡ length ranks → ((q : ℕ) → q < length ranks →
    name_in names q ≡ name_in ranks (unwrap_or (get_or table q None) q)) → IsNaming drafts names
naming_done drafts table ranks names reached reported there ranked len right = record {
  len = len ∙ ranked.len;
  right = λ q inside. right q (omega (arith, inside, ranked.len)) ∙ ap (name_in ranks) (settled_past drafts table q reported (there q
      inside))
      ∙ ranked.right (past drafts q) (past_inside drafts q reached inside);
}
