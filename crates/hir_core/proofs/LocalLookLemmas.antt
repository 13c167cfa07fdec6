-- What a tree means from an offset on depends on how looks are read from there to the end of the bytes, and nowhere else.
use Rattle.std.proofs.Common.{◌≡◌, ℕ, zero, suc, ◌-◌, ◌≤◌, Bool, cond, List, [], ◌∷◌, ◌++◌, length, take, Option, Some, None, refl, ap, ◌∙◌}
use Rattle.std.proofs.Common.{subst, arith}
use Rattle.std.proofs.lemmas.List.{length-take}
use Rattle.std.specs.List.{flat_map}
use Rattle.hir_core.specs.Tree.{Tree, empty, literal, byte_class, char_class, look, repetition, capture, nothing, cat, never, alt}
use Rattle.hir_core.specs.Means.{Looks, Means}
use Rattle.hir_core.specs.PreferredEnds.{Ends, in_order, up_to, at_least, between, repeated, preferred_ends, Has}
use Rattle.hir_core.specs.Facts.{looks_used}
use Rattle.hir_core.specs.Agree.{AgreeFrom}
use Rattle.hir_core.proofs.HasLemmas.{flat_map_same}
use Rattle.hir_core.proofs.LookFactLemmas.{one_held, union_left, union_right}
use Rattle.hir_core.proofs.SpanLemmas.{span_forward, span_within}
use Rattle.hir_core.proofs.PreferredEndsLemmas.{preferred_ends_sound, preferred_ends_complete}
use Rattle.hir_core.proofs.CutLemmas.{cut_to_whole, whole_to_cut}

-- two bodies with the same ends at each offset of a set, from which no end leads out
module _ (In : ℕ → Type 0) (greedy : Bool) (b c : Ends) (same : (i : ℕ) → In i → b i ≡ c i)
    (stays : (i j : ℕ) → In i → Has (b i) j → In j) where
  flat_same : (p q : Ends) → ((i : ℕ) → In i → p i ≡ q i) → (i : ℕ) → In i → flat_map p (b i) ≡ flat_map q (c i)
  flat_same p q each i here = flat_map_same p q (b i) (λ k r. each k (stays i k here r)) ∙ ap (flat_map q) (same i here)

  up_to_same : (n i : ℕ) → In i → up_to greedy b n i ≡ up_to greedy c n i
  up_to_same zero i here = refl
  up_to_same (suc n) i here = ap (λ xs. in_order greedy xs i) (flat_same (up_to greedy b n) (up_to greedy c n) (up_to_same n) i here)

  at_least_same : (h : List ℕ) (min i : ℕ) → In i → at_least h greedy b min i ≡ at_least h greedy c min i
  at_least_same h zero i here = up_to_same (length h - i) i here
  at_least_same h (suc min) i here = flat_same (at_least h greedy b min) (at_least h greedy c min) (at_least_same h min) i here

  between_same : (min most i : ℕ) → In i → between greedy b min most i ≡ between greedy c min most i
  between_same zero most i here = up_to_same most i here
  between_same (suc min) zero i here = refl
  between_same (suc min) (suc most) i here =
      flat_same (between greedy b min most) (between greedy c min most) (between_same min most) i here

  repeated_same : (h : List ℕ) (min : ℕ) (most : Option ℕ) (i : ℕ) → In i → repeated h min most greedy b i ≡ repeated h min most greedy c i
  repeated_same h min None i here = at_least_same h min i here
  repeated_same h min (Some most) i here = between_same min most i here

pub no_round_same : (greedy : Bool) (b c : Ends) (min i : ℕ) → between greedy b min 0 i ≡ between greedy c min 0 i
no_round_same greedy b c zero i = refl
no_round_same greedy b c (suc min) i = refl

module _ (f g : Looks) (h : List ℕ) (s : ℕ) where
  abbrev In : ℕ → Type 0
  In i = (s ≤ i) × (i ≤ length h)

  stays_in : (x : Tree) (i j : ℕ) → In i → Has (preferred_ends f h x i) j → In j
  stays_in x i j here r =
      let m = preferred_ends_sound f h x i j r in
      (omega (arith, here.0, span_forward f h x i j m), span_within f h x i j here.1 m)

  pub same_ends_from : (x : Tree) → AgreeFrom f g s (length h) x → (i : ℕ) → In i → preferred_ends f h x i ≡ preferred_ends g h x i
  same_ends_from empty a i here = refl
  same_ends_from (literal bytes) a i here = refl
  same_ends_from (byte_class ranges) a i here = refl
  same_ends_from (char_class ranges) a i here = refl
  same_ends_from (look l) a i here = ap (λ b. cond b (i ∷ []) []) (a l (one_held l l refl) i here.0 here.1)
  same_ends_from (repetition min None greedy x) a i here =
      repeated_same In greedy (preferred_ends f h x) (preferred_ends g h x) (same_ends_from x a) (stays_in x) h min None i here
  same_ends_from (repetition min (Some zero) greedy x) a i here = no_round_same greedy (preferred_ends f h x) (preferred_ends g h x) min i
  same_ends_from (repetition min (Some (suc most)) greedy x) a i here =
      repeated_same In greedy (preferred_ends f h x) (preferred_ends g h x) (same_ends_from x a) (stays_in x) h min (Some (suc most)) i here
  same_ends_from (capture index name x) a i here = same_ends_from x a i here
  same_ends_from nothing a i here = refl
  same_ends_from (cat x y) a i here =
      flat_map_same (preferred_ends f h y) (preferred_ends g h y) (preferred_ends f h x i)
      (λ k r. same_ends_from y (λ l e. a l (union_right (looks_used x) (looks_used y) l e)) k (stays_in x i k here r))
      ∙ ap (flat_map (preferred_ends g h y)) (same_ends_from x (λ l e. a l (union_left (looks_used x) (looks_used y) l e)) i here)
  same_ends_from never a i here = refl
  same_ends_from (alt x y) a i here =
      ap (λ xs. xs ++ preferred_ends f h y i) (same_ends_from x (λ l e. a l (union_left (looks_used x) (looks_used y) l e)) i here)
      ∙ ap (λ xs. preferred_ends g h x i ++ xs) (same_ends_from y (λ l e. a l (union_right (looks_used x) (looks_used y) l e)) i here)

-- in a haystack of which the offsets from s to e are searched
module _ (f g : Looks) (h : List ℕ) (s e : ℕ) (fits : e ≤ length h) where
  cut_length : length (take e h) ≡ e
  cut_length = omega (arith, length-take e h)

  pub same_ends_within : (x : Tree) → AgreeFrom f g s e x → (i : ℕ) → s ≤ i → i ≤ e →
      preferred_ends f (take e h) x i ≡ preferred_ends g (take e h) x i
  same_ends_within x a i low high =
      let n = cut_length in
      same_ends_from f g (take e h) s x (λ l t k from to. a l t k from (omega arith)) i (low, omega arith)

  pub same_spans_within : (x : Tree) → AgreeFrom f g s e x → (i j : ℕ) → s ≤ i → i ≤ e → j ≤ e → Means f h x i j → Means g h x i j
  same_spans_within x a i j low high within m =
      let there = preferred_ends_complete f (take e h) x i j (whole_to_cut f h e x i j within m) in
      let P : List ℕ → Type 0 = λ ys. Has ys j in
      (cut_to_whole g h e x i j high (preferred_ends_sound g (take e h) x i j (subst P (same_ends_within x a i low high) there))).0
