-- A compiler of sequences: one more sequence, and the first one.
use Rattle.std.proofs.Common.{◌≡◌, ℕ, suc, ◌+◌, ◌*◌, ◌<◌, ◌≤◌, Bool, List, [], ◌∷◌, ◌++◌, map, length, drop, refl, sym, ap, ◌∙◌, subst}
use Rattle.std.proofs.Common.{arith, length-append, append_assoc}
use Rattle.std.proofs.lemmas.List.{length-map, map-append}
use Rattle.hir_core.specs.Tree.{Tree, never, alt, alternation}
use Rattle.nfa_core.specs.BuilderStates.{Assembly}
use Rattle.nfa_core.specs.Drafted.{Table}
use Rattle.nfa_core.specs.declared.transition.Transition.{Transition}
use Rattle.thompson_nfa.specs.Compiled.{Finishes}
use Rattle.thompson_nfa.specs.Shared.{read_tree}
use Rattle.thompson_nfa.specs.SlotTables.{SlotTable}
use Rattle.thompson_nfa.specs.Utf8Stacks.{Stage, fresh, advanced, path_of, StagesRise, AreBytes, Keeps, Turns, PartsAt}
use Rattle.thompson_nfa.specs.Utf8Compiles.{Limb, edge, stage_of, fresh_limb, grown, limb_tree, whole_tree, LimbsLead, LimbsBelow, ReadsAs}
use Rattle.thompson_nfa.specs.Utf8Compiles.{last_of, IsCompiling}
use Rattle.thompson_nfa.proofs.Classes.LimbLemmas.{Popped, popped_none, popped_all, LastLimb, last_limb, below_front, below_back}
use Rattle.thompson_nfa.proofs.Classes.LimbLemmas.{below_both, branches_push, fresh_below, lead_front, lead_back, lead_both, lead_push}
use Rattle.thompson_nfa.proofs.Classes.LimbLemmas.{fresh_lead}
use Rattle.thompson_nfa.proofs.Classes.ReadLemmas.{lasts, turned_reads, more_reads, first_reads}
use Rattle.thompson_nfa.proofs.Classes.StackLemmas.{advanced_rises, rise_front, rise_back, rise_both}

-- ---- lists

same_split : (xs ys : List (ℕ × ℕ)) (a b : ℕ × ℕ) (us vs : List (ℕ × ℕ)) → xs ++ a ∷ us ≡ ys ++ b ∷ vs → length xs ≡ length ys → (xs ≡ ys) ×
    (a ≡ b)
same_split [] [] a b us vs e l = (refl, cc)
same_split [] (y ∷ ys) a b us vs e l = absurd (omega arith)
same_split (x ∷ xs) [] a b us vs e l = absurd (omega arith)
same_split (x ∷ xs) (y ∷ ys) a b us vs e l =
    let here : x ≡ y = cc in
    let later : xs ++ a ∷ us ≡ ys ++ b ∷ vs = cc in
    let r = same_split xs ys a b us vs later (omega arith) in
    (ap (λ (z : ℕ × ℕ). z ∷ xs) here ∙ ap (λ (l : List (ℕ × ℕ)). y ∷ l) r.0, r.1)

drop_behind : (xs : List (ℕ × ℕ)) (a : ℕ × ℕ) (us : List (ℕ × ℕ)) → drop (suc (length xs)) (xs ++ a ∷ us) ≡ us
drop_behind [] a us = refl
drop_behind (x ∷ xs) a us = drop_behind xs a us

path_lasts : (ls : List Limb) → path_of (map stage_of ls) ≡ lasts ls
path_lasts [] = refl
path_lasts (l ∷ ls) = ap (λ (ps : List (ℕ × ℕ)). l.last ∷ ps) (path_lasts ls)

fresh_stages : (q : List (ℕ × ℕ)) → map stage_of (map fresh_limb q) ≡ map fresh q
fresh_stages [] = refl
fresh_stages (r ∷ q) = ap (λ (ns : List Stage). fresh r ∷ ns) (fresh_stages q)

fresh_path : (q : List (ℕ × ℕ)) → path_of (map fresh q) ≡ q
fresh_path [] = refl
fresh_path (r ∷ q) = ap (λ (l : List (ℕ × ℕ)). r ∷ l) (fresh_path q)

fresh_rise : (q : List (ℕ × ℕ)) → AreBytes q → StagesRise (map fresh q)
fresh_rise [] bytes = tt
fresh_rise (r ∷ q) bytes = ((omega arith, bytes.0, bytes.1, tt), fresh_rise q bytes.2)

bytes_back : (xs ys : List (ℕ × ℕ)) → AreBytes (xs ++ ys) → AreBytes ys
bytes_back [] ys bytes = bytes
bytes_back (x ∷ xs) ys bytes = bytes_back xs ys bytes.2

pub last_pushed : (qs : List (List (ℕ × ℕ))) (q : List (ℕ × ℕ)) → last_of (qs ++ q ∷ []) ≡ q
last_pushed [] q = refl
last_pushed (p ∷ []) q = refl
last_pushed (p ∷ r ∷ qs) q = last_pushed (r ∷ qs) q

whole_is : (back : Bool) (front : List Limb) (l : Limb) (ls : List Limb) →
    whole_tree back (front ++ l ∷ ls) ≡ limb_tree back (front ++ l ∷ ls)
whole_is back [] l ls = refl
whole_is back (n ∷ front) l ls = refl

grown_stage : (next : ℕ) (x : Tree) (range : ℕ × ℕ) (l : Limb) → stage_of (grown next x range l) ≡ advanced next range (stage_of l)
grown_stage next x range l =
    ap (λ (es : List (ℕ × ℕ × ℕ)). record { frozen = es; last = range })
    (map-append edge l.branches (record { low = l.last.0; high = l.last.1; next = next; tree = x } ∷ []))

four_more : (n k most : ℕ) (qs : List (List (ℕ × ℕ))) (q : List (ℕ × ℕ)) → n ≤ 1 + 4 * length qs → most ≤ n + 4 →
    most ≤ 1 + 4 * length (qs ++ q ∷ [])
four_more n k most qs q le more = omega (arith, length-append qs (q ∷ []), le, more)

-- ---- a sequence that leaves the path at a node

module _ (old b0 b1 : Assembly) (end : ℕ) (compiled table1 : SlotTable (List Transition)) (ns0 ns1 ns2 : List Stage)
    (qs : List (List (ℕ × ℕ))) (q : List (ℕ × ℕ)) (range : ℕ × ℕ) (at : ℕ)
    (c : IsCompiling old b0 end compiled ns0 qs) (t : Turns end b0 b1 ns0 ns1 range at) (parts : PartsAt (path_of ns0) q at)
    (is_range : range ≡ parts.other) (bytes : AreBytes q) (few : length q ≤ 4)
    (pushed : ns2 ≡ ns1 ++ map fresh (drop (at + 1) q)) (keeps : Keeps b1 end table1) where
  p : Popped old b1 end c.limbs t.stack t.next (1 + 4 * length qs)
  p = popped_all old b0 end c.limbs ns0 (1 + 4 * length qs) (popped_none old b0 end compiled ns0 qs c) b1 t.stack t.next t.pops

  l : LastLimb p.front t.rest t.top
  l = last_limb t.rest t.top p.front (sym p.nodes_are ∙ t.split)

  abbrev above : Tree
  above = limb_tree old.reverse p.rest

  abbrev behind : List (ℕ × ℕ)
  behind = parts.other_rest

  abbrev node : Limb
  node = grown t.next above range l.last

  abbrev limbs : List Limb
  limbs = l.init ++ node ∷ map fresh_limb behind

  old_limbs : c.limbs ≡ l.init ++ l.last ∷ p.rest
  old_limbs = p.split ∙ ap (λ (ls : List Limb). ls ++ p.rest) l.front_is ∙ append_assoc l.init (l.last ∷ []) p.rest

  old_path : path_of ns0 ≡ lasts l.init ++ l.last.last ∷ lasts p.rest
  old_path = ap path_of c.nodes_are ∙ path_lasts c.limbs ∙ ap lasts old_limbs ∙ map-append (λ (n : Limb). n.last) l.init (l.last ∷ p.rest)

  before_is : (lasts l.init ≡ parts.before) × (l.last.last ≡ parts.one)
  before_is =
      let one : length (lasts l.init) ≡ length l.init = length-map l.init (λ (n : Limb). n.last) in
      let two : length (map stage_of l.init) ≡ length l.init = length-map l.init stage_of in
      let three : length t.rest ≡ length (map stage_of l.init) = ap length l.ms_is in
      let place = t.place in let here = parts.place in
      same_split (lasts l.init) parts.before l.last.last parts.one (lasts p.rest) parts.one_rest (sym old_path
      ∙ parts.one_is) (omega (arith, one, two, three, place, here))

  q_is : lasts l.init ++ range ∷ behind ≡ q
  q_is = ap (λ (xs : List (ℕ × ℕ)). xs ++ range ∷ behind) before_is.0 ∙ ap (λ (r : ℕ × ℕ). parts.before ++ r ∷ behind) is_range
      ∙ sym parts.other_is

  left_is : drop (at + 1) q ≡ behind
  left_is =
      let place : at + 1 ≡ suc (length parts.before) = let e = parts.place in omega (arith, e) in
      ap (λ k. drop k q) place ∙ ap (λ (xs : List (ℕ × ℕ)). drop (suc (length parts.before)) xs) parts.other_is
      ∙ drop_behind parts.before parts.other behind

  nodes : ns2 ≡ t.rest ++ advanced t.next range t.top ∷ map fresh behind
  nodes =
      pushed ∙ ap (λ (xs : List (ℕ × ℕ)). ns1 ++ map fresh xs) left_is ∙ ap (λ (ns : List Stage). ns ++ map fresh behind) t.is
      ∙ append_assoc t.rest (advanced t.next range t.top ∷ []) (map fresh behind)

  new_nodes : ns2 ≡ map stage_of limbs
  new_nodes =
      let top : advanced t.next range t.top ≡ stage_of node = ap (λ (s : Stage). advanced t.next range s) l.top_is
      ∙ sym (grown_stage t.next above range l.last) in
      nodes ∙ ap (λ (ns : List Stage). ns ++ advanced t.next range t.top ∷ map fresh behind) l.ms_is
      ∙ ap (λ (s : Stage). map stage_of l.init ++ s ∷ map fresh behind) top
      ∙ ap (λ (ns : List Stage). map stage_of l.init ++ stage_of node ∷ ns) (sym (fresh_stages behind))
      ∙ sym (map-append stage_of l.init (node ∷ map fresh_limb behind))

  bytes_here : AreBytes (parts.other ∷ behind)
  bytes_here = let P : List (ℕ × ℕ) → Type 0 = λ xs. AreBytes xs in bytes_back parts.before (parts.other ∷ behind)
      (subst P parts.other_is bytes)

  new_rising : StagesRise ns2
  new_rising =
      let P : List Stage → Type 0 = λ ns. StagesRise ns in
      let R : ℕ × ℕ → Type 0 = λ r. t.top.last.1 < r.0 in
      let B : ℕ × ℕ → Type 0 = λ r. AreBytes (r ∷ behind) in
      let S : ℕ × ℕ → Type 0 = λ r. r.1 < parts.other.0 in
      let up = subst P t.split t.rising in
      let top_last : t.top.last ≡ parts.one = ap (λ (s : Stage). s.last) l.top_is ∙ before_is.1 in
      let b = subst B (sym is_range) bytes_here in
      let less : t.top.last.1 < range.0 = subst R (sym is_range) (subst S (sym top_last) parts.behind) in
      subst P (sym nodes) (rise_both t.rest (advanced t.next range t.top ∷ map fresh behind) (rise_front t.rest (t.top ∷ []) up)
      (advanced_rises t.next range t.top (rise_back t.rest (t.top ∷ []) up).0 less b.0 b.1, fresh_rise behind b.2))

  new_path : path_of ns2 ≡ last_of (qs ++ q ∷ [])
  new_path =
      let last : path_of (map stage_of limbs) ≡ lasts l.init ++ range ∷ behind =
      path_lasts limbs ∙ map-append (λ (n : Limb). n.last) l.init (node ∷ map fresh_limb behind)
      ∙ ap (λ (xs : List (ℕ × ℕ)). lasts l.init ++ range ∷ xs) (sym (path_lasts (map fresh_limb behind)) ∙ ap path_of (fresh_stages behind)
      ∙ fresh_path behind) in
      ap path_of new_nodes ∙ last ∙ q_is ∙ sym (last_pushed qs q)

  front_below : LimbsBelow (length b1.drafts) (l.init ++ l.last ∷ [])
  front_below = let P : List Limb → Type 0 = λ ls. LimbsBelow (length b1.drafts) ls in subst P l.front_is p.below

  front_leads : (table : Table) → Finishes end b1.drafts end table → LimbsLead old.reverse table end (l.init ++ l.last ∷ [])
  front_leads table fin = let P : List Limb → Type 0 = λ ls. LimbsLead old.reverse table end ls in subst P l.front_is (p.leads table fin)

  new_room : p.most + length ns2 ≤ 1 + 4 * length (qs ++ q ∷ [])
  new_room =
      let room = p.room in
      let stack : length t.stack ≡ length t.rest + 1 = ap length t.split ∙ length-append t.rest (t.top ∷ []) in
      let new : length ns2 ≡ length t.rest + suc (length (map fresh behind)) =
      ap length nodes ∙ length-append t.rest (advanced t.next range t.top ∷ map fresh behind) in
      let later : length (map fresh behind) ≡ length behind = length-map behind fresh in
      let whole : length q ≡ length parts.before + suc (length behind) =
      ap length parts.other_is ∙ length-append parts.before (parts.other ∷ behind) in
      four_more (p.most + length t.stack) 0 (p.most + length ns2) qs q room (omega (arith, stack, new, later, whole, few))

  new_reads : ReadsAs (whole_tree old.reverse limbs) (alternation (map (read_tree old.reverse) (qs ++ q ∷ [])))
  new_reads =
      let back = old.reverse in
      let P : Tree → Type 0 = λ x. ReadsAs x (alternation (map (read_tree back) (qs ++ q ∷ []))) in
      let R : List (ℕ × ℕ) → Type 0 = λ xs. ReadsAs (limb_tree back limbs)
      (alt (limb_tree back (l.init ++ l.last ∷ p.rest)) (read_tree back xs)) in
      let W : Tree → Type 0 = λ y. ReadsAs y (alternation (map (read_tree back) qs)) in
      let was : ReadsAs (limb_tree back (l.init ++ l.last ∷ p.rest)) (alternation (map (read_tree back) qs)) =
      subst W (ap (whole_tree back) old_limbs ∙ whole_is back l.init l.last p.rest) c.reads in
      subst P (sym (whole_is back l.init node (map fresh_limb behind)))
      (more_reads back (limb_tree back limbs) (limb_tree back (l.init ++ l.last ∷ p.rest)) qs q was
      (subst R q_is (turned_reads back l.init t.next range l.last p.rest behind)))

  pub sequence_turned : IsCompiling old b1 end table1 ns2 (qs ++ q ∷ [])
  sequence_turned = record {
    most = p.most;
    has = p.has;
    room = new_room;
    keeps = keeps;
    rising = new_rising;
    path = new_path;
    limbs = limbs;
    nodes_are = new_nodes;
    below = below_both (length b1.drafts) l.init (node ∷ map fresh_limb behind)
        (below_front (length b1.drafts) l.init (l.last ∷ []) front_below) (
          branches_push (length b1.drafts) l.last.branches (record {
            low = l.last.last.0;
            high = l.last.last.1;
            next = t.next;
            tree = above;
          })
              (below_back (length b1.drafts) l.init (l.last ∷ []) front_below).0 p.next_there,
          fresh_below (length b1.drafts) behind,
        );
    leads = λ table fin.
        lead_both old.reverse table end l.init (node ∷ map fresh_limb behind)
        (lead_front old.reverse table end l.init (l.last ∷ []) (front_leads table fin)) (
          lead_push old.reverse table end l.last.branches (record {
            low = l.last.last.0;
            high = l.last.last.1;
            next = t.next;
            tree = above;
          })
              (lead_back old.reverse table end l.init (l.last ∷ []) (front_leads table fin)).0 (p.next_leads table fin),
          fresh_lead old.reverse table end behind,
        );
    reads = new_reads;
  }

-- ---- the first sequence

pub no_limb : (ls : List Limb) → map stage_of ls ≡ [] → ls ≡ []
no_limb [] e = refl
no_limb (l ∷ ls) e = cc

module _ (old b : Assembly) (end : ℕ) (compiled : SlotTable (List Transition)) (ns0 ns : List Stage) (qs : List (List (ℕ × ℕ)))
    (c : IsCompiling old b end compiled ns0 qs) (none : ns0 ≡ []) where
  limbs_none : c.limbs ≡ []
  limbs_none = no_limb c.limbs (sym c.nodes_are ∙ none)

  pub never_read : ReadsAs never (alternation (map (read_tree old.reverse) qs))
  never_read = let P : Tree → Type 0 = λ x. ReadsAs x (alternation (map (read_tree old.reverse) qs)) in
      subst P (ap (whole_tree old.reverse) limbs_none) c.reads

  begun_by : (r : ℕ × ℕ) (q : List (ℕ × ℕ)) → AreBytes (r ∷ q) → length (r ∷ q) ≤ 4 → ns ≡ map fresh (r ∷ q) →
      IsCompiling old b end compiled ns (qs ++ (r ∷ q) ∷ [])
  begun_by r q bytes few is =
      let back = old.reverse in
      let nodes_are : ns ≡ map stage_of (map fresh_limb (r ∷ q)) = is ∙ sym (fresh_stages (r ∷ q)) in
      let P : List Stage → Type 0 = λ l. StagesRise l in
      let room = c.room in
      let long : length ns ≡ length (r ∷ q) = ap length is ∙ length-map (r ∷ q) fresh in
      let was : length ns0 ≡ 0 = ap length none in
      record {
        most = c.most;
        has = c.has;
        room = four_more (c.most + length ns0) 0 (c.most + length ns) qs (r ∷ q) room (omega (arith, long, was, few));
        keeps = c.keeps;
        rising = subst P (sym is) (fresh_rise (r ∷ q) bytes);
        path = ap path_of is ∙ fresh_path (r ∷ q) ∙ sym (last_pushed qs (r ∷ q));
        limbs = map fresh_limb (r ∷ q);
        nodes_are = nodes_are;
        below = fresh_below (length b.drafts) (r ∷ q);
        leads = λ table fin. fresh_lead back table end (r ∷ q);
        reads = more_reads back (limb_tree back (map fresh_limb (r ∷ q))) never qs (r ∷ q) never_read (first_reads back r q);
      }

  some_begun : (q : List (ℕ × ℕ)) → 1 ≤ length q → AreBytes q → length q ≤ 4 → ns ≡ map fresh q →
      IsCompiling old b end compiled ns (qs ++ q ∷ [])
  some_begun [] some bytes few is = absurd (omega arith)
  some_begun (r ∷ q) some bytes few is = begun_by r q bytes few is

  pub sequence_first : (q : List (ℕ × ℕ)) → 1 ≤ length q → AreBytes q → length q ≤ 4 → ns ≡ ns0 ++ map fresh (drop 0 q) →
      IsCompiling old b end compiled ns (qs ++ q ∷ [])
  sequence_first q some bytes few pushed = some_begun q some bytes few (pushed ∙ ap (λ (l : List Stage). l ++ map fresh q) none)
