-- A compiler of sequences: the begin and the end.
use Rattle.std.proofs.Common.{◌≡◌, ℕ, zero, suc, ◌+◌, ◌*◌, ◌<◌, ◌≤◌, Bool, List, [], ◌∷◌, ◌++◌, map, length, replicate, get_or, Option}
use Rattle.std.proofs.Common.{None, refl, sym, ap, ◌∙◌, subst, arith, ⊎_elim, false}
use Rattle.std.proofs.lemmas.Bool.{cases_eq, eq-eqb}
use Rattle.std.proofs.lemmas.List.{length-map, get_or-map, length-replicate}
use Rattle.hir_core.specs.Sequences.{bytes_of}
use Rattle.hir_core.specs.declared.utf8_sequences.Utf8Range.{Utf8Range}
use Rattle.look_core.specs.declared.look.Look.{Look}
use Rattle.hir_core.specs.Tree.{Tree, never, alternation}
use Rattle.nfa_core.specs.BuilderStates.{Assembly, patched, is_sparse, sparse_draft, empty_draft}
use Rattle.nfa_core.specs.Renaming.{stands_for}
use Rattle.nfa_core.specs.Drafted.{Table}
use Rattle.nfa_core.specs.declared.transition.Transition.{Transition}
use Rattle.nfa_core.specs.declared.build_error.BuildError.{BuildError}
use Rattle.nfa_core.specs.declared.build_error.BuildError.TheVariants.{NoMemory}
use Rattle.thompson_nfa.specs.Added.{AddsDraft}
use Rattle.thompson_nfa.specs.Compiled.{Finished, Finishes, ComesOut, Makes, Does, uses}
use Rattle.thompson_nfa.specs.Denotes.{Denotes}
use Rattle.thompson_nfa.specs.Refusals.{Quits}
use Rattle.thompson_nfa.specs.Shared.{read_tree}
use Rattle.thompson_nfa.specs.SlotTables.{SlotTable, empty_table}
use Rattle.thompson_nfa.specs.Utf8Stacks.{Stage, path_of, StagesRise, HoldsState, Keeps, Compiles, Pops, pops_none, Turns, PopsUntil}
use Rattle.thompson_nfa.specs.Utf8Stacks.{PartsAt}
use Rattle.thompson_nfa.specs.Utf8Compiles.{Limb, stage_of, limb_tree, whole_tree, ReadsAs, HasStates, IsCompiling}
use Rattle.thompson_nfa.proofs.Steps.LookLemmas.{adds_none, quiet_plain, uses_reads}
use Rattle.thompson_nfa.proofs.Walks.AheadLemmas.{denotes_then_empty}
use Rattle.thompson_nfa.proofs.Walks.DenoteLemmas.{denotes_empty, denotes_like}
use Rattle.thompson_nfa.proofs.Fragments.LeafLemmas.{tame_one}
use Rattle.thompson_nfa.proofs.Classes.LimbLemmas.{popped_none, popped_all, has_progress, more_states, until_quits}
use Rattle.thompson_nfa.proofs.Steps.OutLemmas.{out_here, out_next, out_at}
use Rattle.thompson_nfa.proofs.Steps.ProgressLemmas.{first_added, made}
use Rattle.thompson_nfa.proofs.Classes.ReadLemmas.{as_itself}
use Rattle.thompson_nfa.proofs.Walks.SameLemmas.{IsSame}
use Rattle.thompson_nfa.proofs.Classes.SharedLemmas.{denotes_branches}
use Rattle.thompson_nfa.proofs.Classes.StackLemmas.{get_behind}
use Rattle.thompson_nfa.proofs.Classes.PathLemmas.{never_read, no_limb}

-- ---- the begin

abbrev nothing_held : Option (List Transition × ℕ)
nothing_held = None

none_held : (n at : ℕ) → get_or (replicate n nothing_held) at nothing_held ≡ nothing_held
none_held zero at = refl
none_held (suc n) zero = refl
none_held (suc n) (suc at) = none_held n at

empty_keeps : (b : Assembly) (end capacity : ℕ) → end < length b.drafts → Keeps b end (empty_table capacity)
empty_keeps b end capacity there =
    let P : Option (List Transition × ℕ) → Type 0 = λ o. HoldsState b end o in
    record {
      end_there = there;
      ready = eq-eqb (length (replicate capacity nothing_held)) capacity (length-replicate capacity nothing_held);
      kept = λ at. subst P (sym (none_held capacity at)) tt;
    }

pub compile_begun : (a b : Assembly) (end capacity : ℕ) (compiled : SlotTable (List Transition)) (ns : List Stage) →
    AddsDraft a b end (empty_draft 0) a.groups → compiled ≡ empty_table capacity → ns ≡ [] →
    IsCompiling a b end compiled ns []
compile_begun a b end capacity compiled ns x is none =
    let p = first_added 8 x (tame_one b (empty_draft 0) 0 refl (omega arith) refl refl) (omega arith) in
    let size = x.size in let here = x.is in
    let there : end < length b.drafts = omega arith in
    let P : SlotTable (List Transition) → Type 0 = λ t. Keeps b end t in
    let Q : List Stage → Type 0 = λ l. StagesRise l in
    let long : length ns ≡ 0 = ap length none in
    record {
      most = 1;
      has = record {
        end_is = x.is;
        there = there;
        grows = x.grows;
        groups_are = x.groups_are;
        tame = p.partly.tame;
        waits = x.here;
        stands = λ q behind low. absurd (omega arith);
        states = p.states;
        bytes = p.bytes;
        numbered = p.numbered;
      };
      room = omega arith;
      keeps = subst P (sym is) (empty_keeps b end capacity there);
      rising = subst Q (sym none) tt;
      path = ap path_of none;
      limbs = [];
      nodes_are = none;
      below = tt;
      leads = λ table fin. tt;
      reads = as_itself never;
    }

-- ---- the end

-- all states are made: from the start to the end the table does what the tree means
pub record IsWholePath (old b : Assembly) (end start : ℕ) (x : Tree) (n : ℕ) : Type 0 where
  pub most : ℕ
  pub has : HasStates old b end most
  pub least : most ≤ n
  pub behind : end ≤ start
  pub there : start < length b.drafts
  pub met : (l : Look) → uses old.reverse x l ≡ false
  pub denotes : (table : Table) → Finishes end b.drafts end table → Denotes old.reverse table start end x

module _ (old b : Assembly) (end start n : ℕ) (x : Tree) (c : IsWholePath old b end start x n) where
  closed_states : (table : Table) (target : ℕ) → Finished (length old.drafts) b.drafts end target table → Finishes end b.drafts end table
  closed_states table target fin q low high ne = let e = c.has.end_is in fin.states q (omega arith) high ne

  closed_end : (table : Table) (target : ℕ) → Finished (length old.drafts) b.drafts end target table → table end ≡ empty_draft target
  closed_end table target fin = fin.led ∙ ap (patched target) c.has.waits

  pub closed_made : Makes old b start end n
  closed_made =
      let e = c.has.end_is in let least = c.least in let behind = c.behind in
      made n (has_progress c.has) (omega arith) c.least (omega arith) c.there (omega arith) c.has.there (ap is_sparse c.has.waits)
      (λ table target fin q low high.
      let P : ℕ → Type 0 = λ k. ComesOut table target k in
      ⊎_elim
      (λ (same : q ≡ end). subst P (sym same) (out_next table target end target (ap stands_for (closed_end table target fin))
      (out_at table target)))
      (λ (other : q ≡ end → ⊥). out_here table target q (ap stands_for (fin.states q low high other) ∙ c.has.stands q (omega arith) high))
      (cases_eq q end))

  pub closed_does : Does old b start end x
  closed_does = record {
    denotes = λ table target fin.
        denotes_then_empty old.reverse table start end target x (c.denotes table (closed_states table target fin))
        (denotes_empty old.reverse table end target (closed_end table target fin));
    looks = adds_none old.reverse x old b (quiet_plain c.has.grows c.has.tame) c.met;
  }

  pub closed_groups : b.groups ≡ old.groups
  closed_groups = c.has.groups_are

pub as_same : (y z : Tree) → ReadsAs y z → ((back : Bool) (l : Look) → uses back y l ≡ uses back z l) → IsSame y z
as_same y z r met = record { reading = r.reading; ends = r.ends; met = met }

whole_some : (back : Bool) (ls : List Limb) → 0 < length ls → whole_tree back ls ≡ limb_tree back ls
whole_some back [] some = absurd (omega arith)
whole_some back (l ∷ ls) some = refl

pub empty_by : (ns : List Stage) → length ns ≡ 0 → ns ≡ []
empty_by [] e = refl
empty_by (n ∷ ns) e = absurd (omega arith)

module _ (old b0 b : Assembly) (end : ℕ) (compiled : SlotTable (List Transition)) (ns0 : List Stage) (qs : List (List (ℕ × ℕ)))
    (c : IsCompiling old b0 end compiled ns0 qs) where
  abbrev all_read : Tree
  all_read = alternation (map (read_tree old.reverse) qs)

  -- the states of all nodes are made
  pub path_closed : (ns : List Stage) (start : ℕ) → 0 < length ns0 → Pops end b0 ns0 b ns start → length ns ≡ 0 →
      IsWholePath old b end start all_read (2 + 4 * length qs)
  path_closed ns start some pops short =
      let back = old.reverse in
      let p = popped_all old b0 end c.limbs ns0 (1 + 4 * length qs) (popped_none old b0 end compiled ns0 qs c) b ns start pops in
      let none : p.front ≡ [] = no_limb p.front (sym p.nodes_are ∙ empty_by ns short) in
      let rest : c.limbs ≡ p.rest = p.split ∙ ap (λ (l : List Limb). l ++ p.rest) none in
      let long : length c.limbs ≡ length ns0 = sym (length-map c.limbs stage_of) ∙ sym (ap length c.nodes_are) in
      let same : limb_tree back p.rest ≡ whole_tree back c.limbs = sym (ap (limb_tree back) rest)
      ∙ sym (whole_some back c.limbs (omega (arith, long, some))) in
      let room = p.room in
      record {
        most = p.most;
        has = p.has;
        least = omega arith;
        behind = p.next_after;
        there = p.next_there;
        denotes = λ table fin.
            let P : Tree → Type 0 = λ x. Denotes back table start end x in
            denotes_like back table start end (whole_tree back c.limbs) all_read c.reads.reading c.reads.ends
            (subst P same (p.next_leads table fin));
        met = λ l. uses_reads back back l qs;
      }

  -- there was no sequence
  pub none_closed : (start : ℕ) (trans : List (ℕ × ℕ × ℕ)) → ns0 ≡ [] → trans ≡ [] → Compiles b0 b end trans start →
      IsWholePath old b end start all_read (2 + 4 * length qs)
  none_closed start trans none is x =
      let back = old.reverse in
      let P : List (ℕ × ℕ × ℕ) → Type 0 = λ l. Compiles b0 b end l start in
      let y : Compiles b0 b end [] start = subst P is x in
      let more = more_states old b0 b end c.most start [] c.has tt (λ k d h. absurd (omega arith)) y.how in
      let room = c.room in let least = more.least in let behind = y.behind in
      record {
        most = more.now;
        has = more.has;
        least = omega arith;
        behind = omega arith;
        there = y.there;
        denotes = λ table fin.
            let here : table start ≡ sparse_draft [] = fin start (omega arith) y.there (λ (same : start ≡ end). omega arith) ∙ y.here in
            let reads = never_read old b0 end compiled ns0 ns0 qs c none in
            denotes_like back table start end never all_read reads.reading reads.ends
            (denotes_branches back table start end [] [] here tt tt);
        met = λ l. uses_reads back back l qs;
      }

-- an error of a state on the way is an error of the class
abbrev pub QuitsAll : ℕ → Assembly → Assembly → SlotTable (List Transition) → List Stage → BuildError → Type 0
QuitsAll end b0 new compiled ns0 e = (old : Assembly) (qs : List (List (ℕ × ℕ))) → IsCompiling old b0 end compiled ns0 qs →
    Quits old new (2 + 4 * length qs) e

pub all_quit : (end : ℕ) (b0 new : Assembly) (compiled : SlotTable (List Transition)) (ns0 : List Stage) (e : BuildError) →
    PopsUntil end b0 new ns0 e → QuitsAll end b0 new compiled ns0 e
all_quit end b0 new compiled ns0 e r = λ old qs c. until_quits old b0 new end compiled ns0 qs e c r

-- there is no memory for the path
pub first_quit : (end : ℕ) (b : Assembly) (compiled : SlotTable (List Transition)) (ns : List Stage) (e : BuildError) → e ≡ NoMemory →
    QuitsAll end b b compiled ns e
first_quit end b compiled ns e is =
    let P : BuildError → Type 0 = λ x. PopsUntil end b b ns x in
    all_quit end b b compiled ns e (subst P (sym is) (record {
      middle = b;
      stack = ns;
      next = end;
      pops = pops_none;
      stays = record { same = refl; cause = tt; passed = omega arith };
    }))

pub turned_quit : (end : ℕ) (b0 b1 : Assembly) (compiled : SlotTable (List Transition)) (ns0 ns1 : List Stage) (range : ℕ ×
    ℕ) (at : ℕ) (e : BuildError) → Turns end b0 b1 ns0 ns1 range at → e ≡ NoMemory →
    QuitsAll end b0 b1 compiled ns0 e
turned_quit end b0 b1 compiled ns0 ns1 range at e t is =
    let P : BuildError → Type 0 = λ x. PopsUntil end b0 b1 ns0 x in
    all_quit end b0 b1 compiled ns0 e (subst P (sym is) (record {
      middle = b1;
      stack = t.stack;
      next = t.next;
      pops = t.pops;
      stays = record { same = refl; cause = tt; passed = omega arith };
    }))

pub compiling_as : (old b : Assembly) (end first : ℕ) (compiled table : SlotTable (List Transition)) (ns : List Stage)
    (qs : List (List (ℕ × ℕ))) → end ≡ first → compiled ≡ table → IsCompiling old b first table ns qs →
    IsCompiling old b end compiled ns qs
compiling_as old b end first compiled table ns qs e is c =
    let P : ℕ → Type 0 = λ n. IsCompiling old b n table ns qs in
    let Q : SlotTable (List Transition) → Type 0 = λ t. IsCompiling old b end t ns qs in
    subst Q (sym is) (subst P (sym e) c)

pub parts_range : (p q : List (ℕ × ℕ)) (rs : List Utf8Range) (r d : Utf8Range) (at : ℕ) → q ≡ map bytes_of rs → at < length rs →
    r ≡ get_or rs at d → (x : PartsAt p q at) → bytes_of r ≡ x.other
parts_range p q rs r d at is inside got x =
    let e : ℕ × ℕ = bytes_of d in
    let place = x.place in
    ap bytes_of got ∙ sym (get_or-map bytes_of rs at d e inside) ∙ ap (λ (l : List (ℕ × ℕ)). get_or l at e) (sym is ∙ x.other_is)
    ∙ ap (λ k. get_or (x.before ++ x.other ∷ x.other_rest) k e) (sym place) ∙ get_behind x.before x.other x.other_rest e
