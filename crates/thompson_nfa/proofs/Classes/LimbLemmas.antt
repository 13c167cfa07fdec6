-- A class that is compiled sequence by sequence: what its states do for the table, and what is read along the path.
use Rattle.std.proofs.Common.{◌≡◌, ℕ, zero, suc, ◌+◌, ◌*◌, ◌<◌, ◌≤◌, ◌⊎◌, inl, inr, Bool, List, [], ◌∷◌, ◌++◌, map, length, get_or, refl}
use Rattle.std.proofs.Common.{sym, ap, ◌∙◌, subst, arith, length-append, append_assoc, append-nil, ⊎_elim, true}
use Rattle.std.specs.Prelude.{All}
use Rattle.std.proofs.lemmas.Bool.{cases_lt}
use Rattle.hir_core.specs.Tree.{Tree, alternation}
use Rattle.nfa_core.specs.BuilderStates.{Assembly, draft_at, sparse_draft}
use Rattle.nfa_core.specs.CanBuild.{names_of}
use Rattle.nfa_core.specs.Renaming.{stands_for}
use Rattle.nfa_core.specs.Drafted.{Table}
use Rattle.nfa_core.specs.declared.transition.Transition.{Transition}
use Rattle.nfa_core.specs.declared.build_error.BuildError.{BuildError}
use Rattle.thompson_nfa.specs.Added.{AddsDraft}
use Rattle.thompson_nfa.specs.Compiled.{Grows, Finishes, IsTame}
use Rattle.thompson_nfa.specs.Denotes.{Denotes}
use Rattle.thompson_nfa.specs.Refusals.{Quits}
use Rattle.thompson_nfa.specs.Shared.{read_then, branch_trees, LeadAll}
use Rattle.thompson_nfa.specs.SlotTables.{SlotTable}
use Rattle.thompson_nfa.specs.Utf8Stacks.{Stage, frozen_with, RisesIn, MakesTop, Pops, pops_none, pops_more, PopsUntil}
use Rattle.thompson_nfa.specs.Utf8Compiles.{Branch, Limb, edge, stage_of, branch_tree, fresh_limb, limb_tree, BranchesLead, LimbsLead}
use Rattle.thompson_nfa.specs.Utf8Compiles.{BranchesBelow, LimbsBelow, HasStates, IsCompiling}
use Rattle.thompson_nfa.proofs.Walks.DenoteLemmas.{denotes_empty_here}
use Rattle.thompson_nfa.proofs.Steps.GrowLemmas.{grows_refl}
use Rattle.thompson_nfa.proofs.Steps.ProgressLemmas.{Progress, then_added, then_quits}
use Rattle.thompson_nfa.proofs.Classes.SharedLemmas.{denotes_branches}
use Rattle.thompson_nfa.proofs.Classes.StackLemmas.{rises_ascends, few_bytes}

-- ---- the states that were added

pub has_progress : {old b : Assembly} {end most : ℕ} → HasStates old b end most → Progress true old b most 8
has_progress h = record { partly = record { grows = h.grows; tame = h.tame }; states = h.states; bytes = h.bytes; numbered = h.numbered }

has_added : (old b c : Assembly) (end most id : ℕ) (trans : List (ℕ × ℕ × ℕ)) → HasStates old b end most →
    AddsDraft b c id (sparse_draft trans) b.groups → RisesIn 0 trans →
    All (λ q. q < length c.drafts) (names_of (sparse_draft trans)) → HasStates old c end (most + 1)
has_added old b c end most id trans h x up named =
    let few = few_bytes trans up in
    let tame : IsTame true c (sparse_draft trans) = record { named = named; known = refl; not_barred = refl } in
    let p : Progress true old c (most + 1) 8 = then_added 8 (has_progress h) x tame (omega arith) in
    let there = h.there in let size = x.size in let is = x.is in
    record {
      end_is = h.end_is;
      there = omega arith;
      grows = p.partly.grows;
      groups_are = x.groups_are ∙ h.groups_are;
      tame = p.partly.tame;
      waits = x.grows.same end h.there ∙ h.waits;
      stands = λ q behind low. ⊎_elim
          (λ (l : q < length b.drafts). ap stands_for (x.grows.same q l) ∙ h.stands q behind l)
          (λ (l : length b.drafts ≤ q).
          let same : q ≡ id = omega arith in
          ap (λ k. stands_for (draft_at c.drafts k)) same ∙ ap stands_for x.here)
          (cases_lt q (length b.drafts));
      states = p.states;
      bytes = p.bytes;
      numbered = p.numbered;
    }

-- at most one more state
pub record More (old b c : Assembly) (end most : ℕ) : Type 0 where
  pub now : ℕ
  pub least : now ≤ most + 1
  pub has : HasStates old c end now
  pub grows : Grows b c

pub more_states : (old b c : Assembly) (end most id : ℕ) (trans : List (ℕ × ℕ × ℕ)) → HasStates old b end most → RisesIn 0 trans →
    All (λ q. q < length c.drafts) (names_of (sparse_draft trans)) →
    (c ≡ b) ⊎ AddsDraft b c id (sparse_draft trans) b.groups → More old b c end most
more_states old b c end most id trans h up named (inl same) =
    let P : Assembly → Type 0 = λ z. More old b z end most in
    subst P (sym same) (record { now = most; least = omega arith; has = h; grows = grows_refl b })
more_states old b c end most id trans h up named (inr x) = record {
  now = most + 1;
  least = omega arith;
  has = has_added old b c end most id trans h x up named;
  grows = x.grows;
}

-- ---- branches and nodes

pub names_below : (n a b next : ℕ) (bs : List Branch) → BranchesBelow n bs → next < n → (k d : ℕ) →
    k < length (names_of (sparse_draft (map edge bs ++ (a, b, next) ∷ []))) →
    get_or (names_of (sparse_draft (map edge bs ++ (a, b, next) ∷ []))) k d < n
names_below n a b next [] below l zero d h = l
names_below n a b next [] below l (suc k) d h = absurd (omega arith)
names_below n a b next (x ∷ bs) below l zero d h = below.0
names_below n a b next (x ∷ bs) below l (suc k) d h = names_below n a b next bs below.1 l k d (omega arith)

pub branches_wider : (n m : ℕ) (bs : List Branch) → n ≤ m → BranchesBelow n bs → BranchesBelow m bs
branches_wider n m [] le below = tt
branches_wider n m (b ∷ bs) le below = let l = below.0 in (omega arith, branches_wider n m bs le below.1)

limbs_wider : (n m : ℕ) (ls : List Limb) → n ≤ m → LimbsBelow n ls → LimbsBelow m ls
limbs_wider n m [] le below = tt
limbs_wider n m (l ∷ ls) le below = (branches_wider n m l.branches le below.0, limbs_wider n m ls le below.1)

pub below_front : (n : ℕ) (ls ms : List Limb) → LimbsBelow n (ls ++ ms) → LimbsBelow n ls
below_front n [] ms below = tt
below_front n (l ∷ ls) ms below = (below.0, below_front n ls ms below.1)

pub below_back : (n : ℕ) (ls ms : List Limb) → LimbsBelow n (ls ++ ms) → LimbsBelow n ms
below_back n [] ms below = below
below_back n (l ∷ ls) ms below = below_back n ls ms below.1

pub below_both : (n : ℕ) (ls ms : List Limb) → LimbsBelow n ls → LimbsBelow n ms → LimbsBelow n (ls ++ ms)
below_both n [] ms below more = more
below_both n (l ∷ ls) ms below more = (below.0, below_both n ls ms below.1 more)

pub branches_push : (n : ℕ) (bs : List Branch) (b : Branch) → BranchesBelow n bs → b.next < n → BranchesBelow n (bs ++ b ∷ [])
branches_push n [] b below l = (l, tt)
branches_push n (x ∷ bs) b below l = (below.0, branches_push n bs b below.1 l)

pub fresh_below : (n : ℕ) (q : List (ℕ × ℕ)) → LimbsBelow n (map fresh_limb q)
fresh_below n [] = tt
fresh_below n (r ∷ q) = (tt, fresh_below n q)

module _ (back : Bool) (T : Table) (e : ℕ) where
  pub lead_front : (ls ms : List Limb) → LimbsLead back T e (ls ++ ms) → LimbsLead back T e ls
  lead_front [] ms lead = tt
  lead_front (l ∷ ls) ms lead = (lead.0, lead_front ls ms lead.1)

  pub lead_back : (ls ms : List Limb) → LimbsLead back T e (ls ++ ms) → LimbsLead back T e ms
  lead_back [] ms lead = lead
  lead_back (l ∷ ls) ms lead = lead_back ls ms lead.1

  pub lead_both : (ls ms : List Limb) → LimbsLead back T e ls → LimbsLead back T e ms → LimbsLead back T e (ls ++ ms)
  lead_both [] ms lead more = more
  lead_both (l ∷ ls) ms lead more = (lead.0, lead_both ls ms lead.1 more)

  pub lead_push : (bs : List Branch) (b : Branch) → BranchesLead back T e bs → Denotes back T b.next e b.tree →
      BranchesLead back T e (bs ++ b ∷ [])
  lead_push [] b lead d = (d, tt)
  lead_push (x ∷ bs) b lead d = (lead.0, lead_push bs b lead.1 d)

  pub fresh_lead : (q : List (ℕ × ℕ)) → LimbsLead back T e (map fresh_limb q)
  fresh_lead [] = tt
  fresh_lead (r ∷ q) = (tt, fresh_lead q)

  abbrev tree_of : Branch → Tree
  tree_of b = b.tree

  lead_all : (bs : List Branch) (a b next : ℕ) (y : Tree) → BranchesLead back T e bs → Denotes back T next e y →
      LeadAll back T e (map edge bs ++ (a, b, next) ∷ []) (map tree_of bs ++ y ∷ [])
  lead_all [] a b next y lead d = (d, tt)
  lead_all (x ∷ bs) a b next y lead d = (lead.0, lead_all bs a b next y lead.1 d)

  all_trees : (bs : List Branch) (a b next : ℕ) (y : Tree) → branch_trees back (map edge bs ++ (a, b, next) ∷ []) (map tree_of bs
      ++ y ∷ []) ≡ map (branch_tree back) bs ++ read_then back (a, b) y ∷ []
  all_trees [] a b next y = refl
  all_trees (x ∷ bs) a b next y = ap (λ (l : List Tree). branch_tree back x ∷ l) (all_trees bs a b next y)

  -- the state of a node, if the states above are made
  pub node_leads : (id next : ℕ) (l : Limb) (above : List Limb) → T id ≡ sparse_draft (frozen_with next (stage_of l)) →
      RisesIn 0 (frozen_with next (stage_of l)) → BranchesLead back T e l.branches →
      Denotes back T next e (limb_tree back above) → Denotes back T id e (limb_tree back (l ∷ above))
  node_leads id next l above is up lead d =
      let P : List Tree → Type 0 = λ ys. Denotes back T id e (alternation ys) in
      let y : Tree = limb_tree back above in
      subst P (all_trees l.branches l.last.0 l.last.1 next y)
      (denotes_branches back T id e (frozen_with next (stage_of l)) (map tree_of l.branches
      ++ y ∷ []) is (rises_ascends (frozen_with next (stage_of l)) up)
      (lead_all l.branches l.last.0 l.last.1 next y lead d))

-- the last node
pub record LastLimb (front : List Limb) (ms : List Stage) (top : Stage) : Type 0 where
  pub init : List Limb
  pub last : Limb
  pub front_is : front ≡ init ++ last ∷ []
  pub ms_is : ms ≡ map stage_of init
  pub top_is : top ≡ stage_of last

pub last_limb : (ms : List Stage) (top : Stage) (front : List Limb) → map stage_of front ≡ ms ++ top ∷ [] → LastLimb front ms top
last_limb [] top [] e = cc
last_limb [] top (l ∷ []) e = let is : top ≡ stage_of l = cc in record { init = []; last = l; front_is = refl; ms_is = refl; top_is = is }
last_limb [] top (l ∷ m ∷ front) e = cc
last_limb (n ∷ ms) top [] e = cc
last_limb (n ∷ ms) top (l ∷ front) e =
    let here : n ≡ stage_of l = cc in
    let later : map stage_of front ≡ ms ++ top ∷ [] = cc in
    let x = last_limb ms top front later in
    record {
      init = l ∷ x.init;
      last = x.last;
      front_is = ap (λ (ls : List Limb). l ∷ ls) x.front_is;
      ms_is = ap (λ (s : Stage). s ∷ ms) here ∙ ap (λ (ns : List Stage). stage_of l ∷ ns) x.ms_is;
      top_is = x.top_is;
    }

-- ---- states are made from the top down

pub finishes_before : (b c : Assembly) (end : ℕ) (table : Table) → Grows b c → Finishes end c.drafts end table →
    Finishes end b.drafts end table
finishes_before b c end table g fin q low high ne = let l = g.longer in fin q low (omega arith) ne ∙ g.same q high

-- from the states on the path to where the last one's last range leads, and from there to the end
pub record Popped (old b : Assembly) (end : ℕ) (ls0 : List Limb) (ns : List Stage) (next bound : ℕ) : Type 0 where
  pub most : ℕ
  pub has : HasStates old b end most
  pub room : most + length ns ≤ bound
  pub front : List Limb
  pub rest : List Limb
  pub split : ls0 ≡ front ++ rest
  pub nodes_are : ns ≡ map stage_of front
  pub below : LimbsBelow (length b.drafts) front
  pub next_after : end ≤ next
  pub next_there : next < length b.drafts
  pub leads : (table : Table) → Finishes end b.drafts end table → LimbsLead old.reverse table end front
  pub next_leads : (table : Table) → Finishes end b.drafts end table → Denotes old.reverse table next end (limb_tree old.reverse rest)

pub popped_none : (old b : Assembly) (end : ℕ) (compiled : SlotTable (List Transition)) (ns : List Stage) (qs : List (List (ℕ × ℕ)))
    (c : IsCompiling old b end compiled ns qs) →
    Popped old b end c.limbs ns end (1 + 4 * length qs)
popped_none old b end compiled ns qs c = record {
  most = c.most;
  has = c.has;
  room = c.room;
  front = c.limbs;
  rest = [];
  split = sym (append-nil c.limbs);
  nodes_are = c.nodes_are;
  below = c.below;
  next_after = omega arith;
  next_there = c.has.there;
  leads = c.leads;
  next_leads = λ table fin. denotes_empty_here old.reverse table end;
}

module _ (old b c : Assembly) (end : ℕ) (ls0 : List Limb) (ns ms : List Stage) (next id bound : ℕ) (p : Popped old b end ls0 ns next bound)
    (top : MakesTop b c end ns ms next id) where
  at_top : LastLimb p.front ms top.top
  at_top = last_limb ms top.top p.front (sym p.nodes_are ∙ top.split)

  top_below : LimbsBelow (length b.drafts) (at_top.init ++ at_top.last ∷ [])
  top_below = let P : List Limb → Type 0 = λ l. LimbsBelow (length b.drafts) l in subst P at_top.front_is p.below

  top_leads : (table : Table) → Finishes end b.drafts end table → LimbsLead old.reverse table end (at_top.init ++ at_top.last ∷ [])
  top_leads table fin = let P : List Limb → Type 0 = λ l. LimbsLead old.reverse table end l in subst P at_top.front_is (p.leads table fin)

  top_named : length b.drafts ≤ length c.drafts → All (λ q. q < length c.drafts) (names_of (sparse_draft (frozen_with next top.top)))
  top_named longer =
      let l = p.next_there in
      let P : Stage → Type 0 = λ s. All (λ q. q < length c.drafts) (names_of (sparse_draft (frozen_with next s))) in
      let branches = (below_back (length b.drafts) at_top.init (at_top.last ∷ []) top_below).0 in
      subst P (sym at_top.top_is) (names_below (length c.drafts) at_top.last.last.0 at_top.last.last.1 next at_top.last.branches
      (branches_wider (length b.drafts) (length c.drafts) at_top.last.branches longer branches) (omega arith))

  longer_by : (c ≡ b) ⊎ AddsDraft b c id (sparse_draft (frozen_with next top.top)) b.groups → length b.drafts ≤ length c.drafts
  longer_by (inl same) = let e : length c.drafts ≡ length b.drafts = ap (λ (z : Assembly). length z.drafts) same in omega arith
  longer_by (inr x) = x.grows.longer

  top_more : More old b c end p.most
  top_more = more_states old b c end p.most id (frozen_with next top.top) p.has top.compiles.rises
      (top_named (longer_by top.compiles.how)) top.compiles.how

  pub popped_top : Popped old c end ls0 ms id bound
  popped_top =
      let more = top_more in let least = more.least in let room = p.room in let behind = top.compiles.behind in
      let shorter : length ns ≡ length ms + 1 = ap length top.split ∙ length-append ms (top.top ∷ []) in
      let before : (table : Table) → Finishes end c.drafts end table → Finishes end b.drafts end table =
      λ table fin. finishes_before b c end table more.grows fin in
      record {
        most = more.now;
        has = more.has;
        room = omega arith;
        front = at_top.init;
        rest = at_top.last ∷ p.rest;
        split = p.split ∙ ap (λ (l : List Limb). l ++ p.rest) at_top.front_is ∙ append_assoc at_top.init (at_top.last ∷ []) p.rest;
        nodes_are = at_top.ms_is;
        below = limbs_wider (length b.drafts) (length c.drafts) at_top.init more.grows.longer
            (below_front (length b.drafts) at_top.init (at_top.last ∷ []) top_below);
        next_after = omega arith;
        next_there = top.compiles.there;
        leads = λ table fin. lead_front old.reverse table end at_top.init (at_top.last ∷ []) (top_leads table (before table fin));
        next_leads = λ table fin.
            let P : Stage → Type 0 = λ s. table id ≡ sparse_draft (frozen_with next s) in
            let Q : Stage → Type 0 = λ s. RisesIn 0 (frozen_with next s) in
            let is = subst P at_top.top_is (fin id (omega arith) top.compiles.there (λ (same : id ≡ end). omega arith)
            ∙ top.compiles.here) in
            node_leads old.reverse table end id next at_top.last p.rest is (subst Q at_top.top_is top.compiles.rises)
            (lead_back old.reverse table end at_top.init (at_top.last ∷ []) (top_leads table (before table fin))).0
            (p.next_leads table (before table fin));
      }

pub popped_all : (old b0 : Assembly) (end : ℕ) (ls0 : List Limb) (ns0 : List Stage) (bound : ℕ) → Popped old b0 end ls0 ns0 end bound →
    (b : Assembly) (ns : List Stage) (next : ℕ) →
    Pops end b0 ns0 b ns next → Popped old b end ls0 ns next bound
popped_all old b0 end ls0 ns0 bound p _ _ _ pops_none = p
popped_all old b0 end ls0 ns0 bound p _ _ _ (pops_more b c ns ms next id before top) =
    popped_top old b c end ls0 ns ms next id bound (popped_all old b0 end ls0 ns0 bound p b ns next before) top

-- an error on the way
pub until_quits : (old b0 new : Assembly) (end : ℕ) (compiled : SlotTable (List Transition)) (ns0 : List Stage) (qs : List (List (ℕ × ℕ)))
    (e : BuildError) → IsCompiling old b0 end compiled ns0 qs →
    PopsUntil end b0 new ns0 e → Quits old new (2 + 4 * length qs) e
until_quits old b0 new end compiled ns0 qs e c r =
    let p = popped_all old b0 end c.limbs ns0 (1 + 4 * length qs) (popped_none old b0 end compiled ns0 qs c) r.middle r.stack r.next
    r.pops in
    let room = p.room in
    then_quits (2 + 4 * length qs) (has_progress p.has) r.stays (omega arith) (omega arith)
