-- How the printing of lines goes on by one line.
use Rattle.std.proofs.Common.{◌≡◌, ◌≤◌, ◌⊎◌, inl, inr, ℕ, suc, ◌-◌, ◌<◌, Bool, true, false, List, [], ◌∷◌, ◌++◌, map, length, drop, refl}
use Rattle.std.proofs.Common.{sym, ap, ap₂, ◌∙◌, subst, rules, arith}
use Rattle.std.proofs.lemmas.Grind.{common_steps}
use Rattle.grep_core.specs.declared.context_printer.Waiting.{Waiting}
use Rattle.grep_core.specs.declared.separator_state.SeparatorState.{SeparatorState}
use Rattle.grep_core.specs.declared.separator_state.SeparatorState.TheVariants.{LastPrinted}
use Rattle.grep_core.specs.declared.role.Role.{Role}
use Rattle.grep_core.specs.declared.role.Role.TheVariants.{Selected, Beside}
use Rattle.grep_core.specs.declared.output_options.OutputOptions.{OutputOptions}
use Rattle.grep_core.specs.ContextPrinting.{Item, queued, after_queue, waiting_item}
use Rattle.grep_core.specs.Report.{before_of, after_of, parting, after_hidden}
use Rattle.grep_core.proofs.StepLemmas.{rest, selects_any, stands_beside, waits, forgets, ends, ends_soon}

behind_items : (b : SeparatorState) (waiting : List Waiting) → after_queue b (map waiting_item waiting) ≡ after_queue b waiting
behind_items b [] = refl
behind_items b (x ∷ xs) = refl

length_items : (waiting : List Waiting) → length (map waiting_item waiting) ≡ length waiting
length_items [] = refl
length_items (x ∷ xs) = ap suc (length_items xs)

kept : (left : ℕ) (waiting : List Waiting) → (left ≡ 0) ⊎ (waiting ≡ []) → (left ≡ 0) ⊎ (map waiting_item waiting ≡ [])
kept left waiting (inl e) = inl e
kept left waiting (inr e) = inr (ap (map waiting_item) e)

joined : (a b c d e : List ℕ) → a ++ (b ++ (c ++ (d ++ e))) ≡ (((a ++ b) ++ c) ++ d) ++ e
joined a b c d e = Prim.search (rules, common_steps)

-- each thing that is printed is known by an equation
pub selected : (w : OutputOptions) (print : Role → Item → List ℕ) (known behind : SeparatorState) (left owed : ℕ) (waiting none : List
    Waiting)
    (out one two new : List ℕ) (it : Item)
    (flags : List Bool) (items : List Item) → length waiting ≤ before_of w.context → (left ≡ 0) ⊎ (waiting ≡ []) →
    one ≡ out ++ queued w print known (map waiting_item waiting) → behind ≡ after_queue known waiting → none ≡ [] →
    two ≡ one ++ parting w behind → new ≡ two ++ print Selected it → owed ≡ after_of w.context →
    out ++ rest w print (before_of w.context) (after_of w.context) known left (map waiting_item waiting) (true ∷ flags) (it ∷ items)
    ≡ new ++ rest w print (before_of w.context) (after_of w.context) LastPrinted owed (map waiting_item none) flags items
selected w print known behind left owed waiting none out one two new it flags items few how printed is empty parted selects after =
    let queue : List Item = map waiting_item waiting in
    let tail : List ℕ = rest w print (before_of w.context) (after_of w.context) LastPrinted (after_of w.context) [] flags items in
    let last : after_queue known queue ≡ behind = behind_items known waiting ∙ sym is in
    let whole : new ≡ ((out ++ queued w print known queue) ++ parting w behind) ++ print Selected it =
    selects ∙ ap (λ t. t ++ print Selected it) (parted ∙ ap (λ t. t ++ parting w behind) printed) in
    ap (λ t. out ++ t) (selects_any w print (before_of w.context) (after_of w.context) known left queue flags it items
    (subst (λ n. n ≤ before_of w.context) (sym (length_items waiting)) few) (kept left waiting how))
    ∙ ap (λ b. out ++ (queued w print known queue ++ (parting w b ++ (print Selected it ++ tail)))) last
    ∙ joined out (queued w print known queue) (parting w behind) (print Selected it) tail
    ∙ ap (λ t. t ++ tail) (sym whole)
    ∙ ap₂ (λ n ws. new ++ rest w print (before_of w.context) (after_of w.context) LastPrinted n (map waiting_item ws) flags items)
    (sym after) (sym empty)

no_waiting : (left : ℕ) (waiting : List Waiting) → 0 < left → (left ≡ 0) ⊎ (waiting ≡ []) → waiting ≡ []
no_waiting left waiting owed (inl e) = absurd (omega (arith, owed, e))
no_waiting left waiting owed (inr e) = e

joined_two : (a b c d : List ℕ) → a ++ (b ++ (c ++ d)) ≡ ((a ++ b) ++ c) ++ d
joined_two a b c d = Prim.search (rules, common_steps)

pub beside : (w : OutputOptions) (print : Role → Item → List ℕ) (known : SeparatorState) (left : ℕ) (waiting : List Waiting) (out one new :
    List ℕ)
    (it : Item)
    (flags : List Bool) (items : List Item) → 0 < left → (left ≡ 0) ⊎ (waiting ≡ []) → one ≡ out ++ parting w known →
    new ≡ one ++ print Beside it →
    out ++ rest w print (before_of w.context) (after_of w.context) known left (map waiting_item waiting) (false ∷ flags) (it ∷ items)
    ≡ new ++ rest w print (before_of w.context) (after_of w.context) LastPrinted (left - 1) (map waiting_item waiting) flags items
beside w print known left waiting out one new it flags items owed how parted printed =
    let empty : waiting ≡ [] = no_waiting left waiting owed how in
    let more : left ≡ suc (left - 1) = omega (arith, owed) in
    let tail : List ℕ = rest w print (before_of w.context) (after_of w.context) LastPrinted (left - 1) [] flags items in
    ap₂ (λ n ws. out ++ rest w print (before_of w.context) (after_of w.context) known n (map waiting_item ws) (false ∷ flags) (it ∷ items))
    more empty
    ∙ ap (λ t. out ++ t) (stands_beside w print (before_of w.context) (after_of w.context) known (left - 1) flags it items)
    ∙ joined_two out (parting w known) (print Beside it) tail
    ∙ ap (λ t. t ++ tail) (sym (printed ∙ ap (λ t. t ++ print Beside it) parted))
    ∙ ap (λ ws. new ++ rest w print (before_of w.context) (after_of w.context) LastPrinted (left - 1) (map waiting_item ws) flags items)
    (sym empty)

items_more : (waiting : List Waiting) (it : Waiting) →
    map waiting_item (waiting ++ it ∷ []) ≡ map waiting_item waiting ++ waiting_item it ∷ []
items_more [] it = refl
items_more (x ∷ xs) it = ap (λ ws. waiting_item x ∷ ws) (items_more xs it)

-- one more line waits, and the first one doesn't wait any more
forgot : (w : OutputOptions) (print : Role → Item → List ℕ) (known behind : SeparatorState) (mid now : List Waiting) (flags : List Bool)
    (items : List Item) →
    before_of w.context < length mid → now ≡ drop 1 mid → behind ≡ after_hidden known →
    rest w print (before_of w.context) (after_of w.context) known 0 (map waiting_item mid) flags items
    ≡ rest w print (before_of w.context) (after_of w.context) behind 0 (map waiting_item now) flags items
forgot w print known behind [] now flags items many is hidden = absurd (omega (arith, many))
forgot w print known behind (q ∷ queue) now flags items many is hidden =
    let enough : before_of w.context ≤ length (map waiting_item queue) =
    subst (λ n. before_of w.context ≤ n) (sym (length_items queue)) (omega (arith, many)) in
    forgets w print (before_of w.context) (after_of w.context) known (waiting_item q) (map waiting_item queue) flags items enough
    ∙ sym (ap₂ (λ b ws. rest w print (before_of w.context) (after_of w.context) b 0 (map waiting_item ws) flags items) hidden is)

pub waited : (w : OutputOptions) (print : Role → Item → List ℕ) (known behind : SeparatorState) (left owed : ℕ) (waiting mid now : List
    Waiting)
    (one : Waiting) (it : Item)
    (flags : List Bool) (items : List Item) → left ≡ 0 → owed ≡ left → waiting_item one ≡ it → mid ≡ waiting ++ one ∷ [] →
    before_of w.context < length mid →
    now ≡ drop 1 mid → behind ≡ after_hidden known →
    rest w print (before_of w.context) (after_of w.context) known left (map waiting_item waiting) (false ∷ flags) (it ∷ items)
    ≡ rest w print (before_of w.context) (after_of w.context) behind owed (map waiting_item now) flags items
waited w print known behind left owed waiting mid now one it flags items none same is pushed many dropped hidden =
    ap (λ n. rest w print (before_of w.context) (after_of w.context) known n (map waiting_item waiting) (false ∷ flags) (it ∷ items)) none
    ∙ waits w print (before_of w.context) (after_of w.context) known (map waiting_item waiting) flags it items
    ∙ ap (λ ws. rest w print (before_of w.context) (after_of w.context) known 0 ws flags items)
    (ap (λ i. map waiting_item waiting ++ i ∷ []) (sym is) ∙ sym (items_more waiting one) ∙ ap (map waiting_item) (sym pushed))
    ∙ forgot w print known behind mid now flags items many dropped hidden
    ∙ ap (λ n. rest w print (before_of w.context) (after_of w.context) behind n (map waiting_item now) flags items) (sym (same ∙ none))

pub ended : (w : OutputOptions) (print : Role → Item → List ℕ) (known : SeparatorState) (left : ℕ) (waiting : List Waiting) →
    (left ≡ 0) ⊎ (waiting ≡ []) →
    rest w print (before_of w.context) (after_of w.context) known left (map waiting_item waiting) [] [] ≡ []
ended w print known left waiting (inl none) =
    ap (λ n. rest w print (before_of w.context) (after_of w.context) known n (map waiting_item waiting) [] []) none
    ∙ ends w print (before_of w.context) (after_of w.context) known (map waiting_item waiting)
ended w print known left waiting (inr empty) =
    ap (λ ws. rest w print (before_of w.context) (after_of w.context) known left (map waiting_item ws) [] []) empty
    ∙ ends_soon w print (before_of w.context) (after_of w.context) known left
