-- A compile so far: how many states and bytes it added, and what its error says about the whole.
use Rattle.std.proofs.Common.{◌≡◌, ℕ, ◌+◌, ◌*◌, ◌<◌, ◌≤◌, min, false, length, refl, sym, ap, ◌∙◌, subst, arith, Bool}
use Rattle.search_core.specs.Index.{greatest_index}
use Rattle.search_types.specs.Groups.{Groups}
use Rattle.hir_core.specs.Tree.{Tree}
use Rattle.nfa_core.specs.BuilderStates.{DraftNode, Assembly, draft_at, draft_bytes, is_sparse}
use Rattle.nfa_core.specs.Drafted.{Table}
use Rattle.nfa_core.specs.declared.build_error.BuildError.{BuildError}
use Rattle.nfa_core.specs.declared.build_error.BuildError.TheVariants as error
use Rattle.thompson_nfa.specs.Compiled.{Grows, Finished, AllComeOut, IsTame, Makes, sum_of_bytes}
use Rattle.thompson_nfa.specs.Added.{AddsDraft, Led}
use Rattle.thompson_nfa.specs.NotedGroups.{HasGroup}
use Rattle.thompson_nfa.specs.Refusals.{FailsStep, FailsStates, FailsTree, Stays, FailsFragment, Quits}
use Rattle.thompson_nfa.specs.declared.which_captures.WhichCaptures.{WhichCaptures}
use Rattle.thompson_nfa.proofs.Steps.GrowLemmas.{grows_refl, grows_trans, Partly, tame_anyhow, partly_joined, partly_added, partly_led}

-- n states were added at most, and `spare` bytes are left of 4096 for each
pub record Progress (plain : Bool) (old mid : Assembly) (n spare : ℕ) : Type 0 where
  pub partly : Partly plain old mid
  pub states : length mid.drafts ≤ length old.drafts + n
  pub bytes : sum_of_bytes mid + spare + 4096 * length old.drafts ≤ sum_of_bytes old + 4096 * length mid.drafts
  pub numbered : length mid.drafts ≤ greatest_index + 1

pub first_added : {plain : Bool} {a b : Assembly} {id : ℕ} {draft : DraftNode} {groups : Groups} (spare : ℕ) →
    AddsDraft a b id draft groups →
    IsTame plain b draft → draft_bytes draft + spare ≤ 4096 → Progress plain a b 1 spare
first_added spare x tame le = record {
  partly = partly_added x tame;
  states = omega (arith, x.size);
  bytes = omega (arith, x.size, x.bytes, le);
  numbered = x.numbered;
}

pub first_made : {a b : Assembly} {start end n : ℕ} → Makes a b start end n → Progress false a b n 8
first_made m = record {
  partly = record { grows = m.fragment.grows; tame = m.tame };
  states = m.within.states;
  bytes = m.within.bytes;
  numbered = m.within.numbered;
}

pub then_added : {plain : Bool} {a b c : Assembly} {id n s : ℕ} {draft : DraftNode} {groups : Groups} (spare : ℕ) → Progress plain a b n s →
    AddsDraft b c id draft groups → IsTame plain c draft → draft_bytes draft + spare ≤ s + 4096 →
    Progress plain a c (n + 1) spare
then_added spare p x tame le = record {
  partly = partly_joined p.partly (partly_added x tame);
  states = omega (arith, p.states, x.size);
  bytes = omega (arith, p.bytes, x.size, x.bytes, le);
  numbered = x.numbered;
}

pub then_made : {a b c : Assembly} {start end n s k : ℕ} (spare : ℕ) → Progress false a b n s → Makes b c start end k → spare ≤ s + 8 →
    Progress false a c (n + k) spare
then_made spare p m le = record {
  partly = partly_joined p.partly (record { grows = m.fragment.grows; tame = m.tame });
  states = omega (arith, p.states, m.within.states);
  bytes = omega (arith, p.bytes, m.within.bytes, le);
  numbered = m.within.numbered;
}

pub then_led : {plain : Bool} {a b c : Assembly} {from to n s : ℕ} (spare : ℕ) → Progress plain a b n s → Led b c from to →
    length a.drafts ≤ from → to < length b.drafts → spare + 4 ≤ s → Progress plain a c n spare
then_led spare p x new there le = record {
  partly = partly_led p.partly x new there;
  states = omega (arith, p.states, x.size);
  bytes = omega (arith, p.bytes, x.size, x.bytes, le);
  numbered = omega (arith, p.numbered, x.size);
}

-- a fragment that is done
pub made : {plain : Bool} {a b : Assembly} {start end n s : ℕ} (m : ℕ) → Progress plain a b n s → 8 ≤ s → n ≤ m →
    length a.drafts ≤ start → start < length b.drafts → length a.drafts ≤ end → end < length b.drafts →
    is_sparse (draft_at b.drafts end) ≡ false →
    ((table : Table) (target : ℕ) → Finished (length a.drafts) b.drafts end target table →
    AllComeOut table target (length a.drafts) (length b.drafts)) →
    Makes a b start end m
made {plain} {a} {b} m p spare le s1 s2 e1 e2 kind out = record {
  fragment = record { grows = p.partly.grows; start_new = s1; start_there = s2; end_new = e1; end_there = e2; can_be_led_on = kind };
  comes_out = out;
  tame = λ q low high. tame_anyhow b (draft_at b.drafts q) (p.partly.tame q low high);
  within = record { states = omega (arith, p.states, le); bytes = omega (arith, p.bytes, spare); numbered = p.numbered };
}

-- the lemma above, with a count that stops at the largest number of 64 bits
pub made_capped : {a b : Assembly} {start end n : ℕ} (m : ℕ) → Makes a b start end n → min n 18446744073709551615 ≤ m →
    Makes a b start end m
made_capped m x le = record {
  fragment = x.fragment;
  comes_out = x.comes_out;
  tame = x.tame;
  within = record {
    states = omega (arith, x.within.states, x.within.numbered, le);
    bytes = x.within.bytes;
    numbered = x.within.numbered;
  };
}

pub size_kept : {old mid : Assembly} → Grows old mid → mid.size_limit ≡ old.size_limit
size_kept g = ap (λ (b : Assembly). b.size_limit) g.settings

-- an error of a later step is an error of the whole
pub step_later : (old mid : Assembly) (n bytes whole m : ℕ) (e : BuildError) → mid.size_limit ≡ old.size_limit →
    length mid.drafts + n ≤ length old.drafts + whole →
    sum_of_bytes mid + bytes ≤ sum_of_bytes old + 4096 * whole → min whole 18446744073709551615 ≤ m → FailsStep mid n bytes e →
    FailsStates old m e
step_later old mid n bytes whole m error.TooManyPatterns size states room cap r = r
step_later old mid n bytes whole m error.TooManyStates size states room cap r = omega arith
step_later old mid n bytes whole m (error.ExceededSizeLimit limit) size states room cap r = let x = r.1 in let y = r.2 in
    (sym size ∙ r.0, omega arith, y)
step_later old mid n bytes whole m error.UnsupportedCaptures size states room cap r = r
step_later old mid n bytes whole m (error.Captures err) size states room cap r = r
step_later old mid n bytes whole m error.NoMemory size states room cap r = r

pub tree_later : (kept : WhichCaptures) (p : ℕ) (old : Assembly) (m : ℕ) (x : Tree) (e : BuildError) → FailsStates old m e →
    FailsTree kept p old m x e
tree_later kept p old m x error.TooManyPatterns r = r
tree_later kept p old m x error.TooManyStates r = r
tree_later kept p old m x (error.ExceededSizeLimit limit) r = r
tree_later kept p old m x error.UnsupportedCaptures r = r
tree_later kept p old m x (error.Captures err) r = absurd r
tree_later kept p old m x error.NoMemory r = r

call_later : (kept : WhichCaptures) (p : ℕ) (old mid : Assembly) (n whole m : ℕ) (x y : Tree) (e : BuildError) →
    mid.size_limit ≡ old.size_limit → length mid.drafts + n ≤ length old.drafts + whole →
    sum_of_bytes mid + 4096 * n ≤ sum_of_bytes old + 4096 * whole → min whole 18446744073709551615 ≤ m →
    ((index : ℕ) → HasGroup kept index x → HasGroup kept index y) →
    FailsTree kept p mid n x e → FailsTree kept p old m y e
call_later kept p old mid n whole m x y error.TooManyPatterns size states room cap inside r = r
call_later kept p old mid n whole m x y error.TooManyStates size states room cap inside r =
    step_later old mid n (4096 * n) whole m error.TooManyStates size states room cap r
call_later kept p old mid n whole m x y (error.ExceededSizeLimit limit) size states room cap inside r =
    step_later old mid n (4096 * n) whole m (error.ExceededSizeLimit limit) size states room cap r
call_later kept p old mid n whole m x y error.UnsupportedCaptures size states room cap inside r = r
call_later kept p old mid n whole m x y (error.Captures err) size states room cap inside r = (r.0, inside r.0 r.1, r.2)
call_later kept p old mid n whole m x y error.NoMemory size states room cap inside r = r

-- the groups of a part are groups of the whole
abbrev pub Includes : WhichCaptures → Tree → Tree → Type 0
Includes kept x y = (index : ℕ) → HasGroup kept index x → HasGroup kept index y

-- the first step fails
pub first_quits : {old new : Assembly} {n bytes : ℕ} {e : BuildError} (m : ℕ) → Stays old new n bytes e → n ≤ m → bytes ≤ 4096 * m →
    Quits old new m e
first_quits {old} {new} {n} {bytes} {e} m r le lb = record {
  settings = r.same ∙ ap (λ (b : Assembly). record old { drafts = b.drafts; groups = b.groups }) (sym r.same);
  cause = step_later old old n bytes m m e refl (omega arith) (omega arith) (omega arith) r.cause;
}

-- a later step fails
pub then_quits : {plain : Bool} {old mid new : Assembly} {k s n bytes : ℕ} {e : BuildError} (m : ℕ) → Progress plain old mid k s →
    Stays mid new n bytes e → k + n ≤ m → bytes ≤ s + 4096 * n → Quits old new m e
then_quits {plain} {old} {mid} {new} {k} {s} {n} {bytes} {e} m p r le lb = record {
  settings = (grows_trans p.partly.grows (let P : Assembly → Type 0 = λ b. Grows mid b in subst P (sym r.same) (grows_refl mid))).settings;
  cause = step_later old mid n bytes m m e (size_kept p.partly.grows) (omega (arith, p.states, le)) (omega (
    arith,
    p.states,
    p.bytes,
    le,
    lb,
  ))
      (omega arith) r.cause;
}

pub refuses : {old new : Assembly} {n : ℕ} {e : BuildError} (kept : WhichCaptures) (m : ℕ) (x : Tree) → Quits old new n e →
    min n 18446744073709551615 ≤ m → FailsFragment kept old new m x e
refuses {old} {new} {n} {e} kept m x q cap = record {
  settings = q.settings;
  cause = tree_later kept (length old.starts) old m x e (step_later old old n (4096 * n) n m e refl (omega arith)
      (omega arith) cap q.cause);
}

pub first_refuses : {old new : Assembly} {n : ℕ} {e : BuildError} {kept : WhichCaptures} {x : Tree} (m : ℕ) (y : Tree) →
    FailsFragment kept old new n x e → Includes kept x y → min n 18446744073709551615 ≤ m →
    FailsFragment kept old new m y e
first_refuses {old} {new} {n} {e} {kept} {x} m y r inside cap = record {
  settings = r.settings;
  cause = call_later kept (length old.starts) old old n n m x y e refl (omega arith) (omega arith) cap inside r.cause;
}

-- a later call fails
pub then_refuses : {plain : Bool} {old mid new : Assembly} {k s n : ℕ} {e : BuildError} {kept : WhichCaptures} {x : Tree} (m : ℕ)
    (y : Tree) → Progress plain old mid k s → FailsFragment kept mid new n x e → Includes kept x y →
    k + n ≤ m → FailsFragment kept old new m y e
then_refuses {plain} {old} {mid} {new} {k} {s} {n} {e} {kept} {x} m y p r inside le =
    let starts : length mid.starts ≡ length old.starts = ap (λ (b : Assembly). length b.starts) p.partly.grows.settings in
    let P : ℕ → Type 0 = λ pattern. FailsTree kept pattern mid n x e in
    record {
      settings = r.settings ∙ ap (λ (b : Assembly). record b { drafts = new.drafts; groups = new.groups }) p.partly.grows.settings;
      cause = call_later kept (length old.starts) old mid n m m x y e (size_kept p.partly.grows) (omega (arith, p.states, le))
          (omega (arith, p.states, p.bytes, le)) (omega arith) inside (subst P starts r.cause);
    }
