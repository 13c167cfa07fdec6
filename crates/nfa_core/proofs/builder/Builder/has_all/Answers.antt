use Rattle.std.proofs.Common.{◌≡◌, ◌<◌, ◌≤◌, ℕ, map, length, ap, sym, subst, ◌∙◌}
use Rattle.std.proofs.lemmas.List.{length-map}
use Rattle.search_types.specs.GroupFaults.{groups_in}
use Rattle.nfa_core.specs.BuilderStates.{Assembly}
use Rattle.nfa_core.specs.Drafts.{draft_of}
use Rattle.nfa_core.proofs.CheckLemmas.{all_tested, open_fails, anchored_fails, unanchored_fails, starts_fail, names_fail}
use Rattle.nfa_core.proofs.builder.Builder.has_all.Goals as goal

pub returns : goal.returns
returns c =
    let seen : map draft_of c.self.inside.drafts.items ≡ c.args.self.now.drafts = ap (λ (b : Assembly). b.drafts) c.self.view_is in
    let inside_len = length-map c.self.inside.drafts.items draft_of in
    let len : c.len-len.result ≡ length c.args.self.now.drafts =
    c.len-len.ensures ∙ c.self.inside.drafts.ok.0 ∙ sym inside_len ∙ ap length seen in
    let later_len : length c.deref-2.result.now ≡ length c.args.self.now.drafts =
    ap length c.deref-2.ensures.value ∙ sym inside_len ∙ ap length seen in
    all_tested c.args.self.now c.args.start_anchored c.args.start_unanchored c.len-len.result
    (length c.deref-2.result.now) c.deref.result.now (map draft_of c.deref-2.result.now)
    (map draft_of c.deref-4.result.now) (groups_in c.deref-3.result.now) c.are_below.result c.are_named.result c.are_known.result
    len later_len (c.deref.ensures.value ∙ ap (λ (b : Assembly). b.starts) c.self.view_is) (ap (map draft_of) c.deref-2.ensures.value
    ∙ seen) (ap (map draft_of) c.deref-4.ensures.value ∙ seen)
    (ap groups_in c.deref-3.ensures.value ∙ ap (λ (b : Assembly). b.groups) c.self.view_is)
    (sym (ap (λ (b : Assembly). b.is_open) c.self.view_is) ∙ c.if-self.false)
    (subst (λ (x : ℕ). x < c.len-len.result) c.as_usize.ensures.value c.if-as_usize-len.false)
    (subst (λ (y : ℕ). y < c.len-len.result) c.as_usize-2.ensures.value c.if-as_usize-len-2.false)
    c.are_below.ensures c.are_named.ensures c.are_known.ensures c.if-not-are_below.false c.if-not-are_named.false

pub returns-then-self : goal.returns-then-self
returns-then-self c =
    open_fails c.args.self.now c.args.start_anchored c.args.start_unanchored
    (sym (ap (λ (b : Assembly). b.is_open) c.self.view_is) ∙ c.if-self.true)

pub returns-then-as_usize-len : goal.returns-then-as_usize-len
returns-then-as_usize-len c =
    let len : c.len-len.result ≡ length c.args.self.now.drafts =
    c.len-len.ensures ∙ c.self.inside.drafts.ok.0 ∙ sym (length-map c.self.inside.drafts.items draft_of)
    ∙ ap (λ (b : Assembly). length b.drafts) c.self.view_is in
    anchored_fails c.args.self.now c.args.start_anchored c.args.start_unanchored c.len-len.result len
    (subst (λ (x : ℕ). c.len-len.result ≤ x) c.as_usize.ensures.value c.if-as_usize-len.true)

pub returns-then-as_usize-len-2 : goal.returns-then-as_usize-len-2
returns-then-as_usize-len-2 c =
    let len : c.len-len.result ≡ length c.args.self.now.drafts =
    c.len-len.ensures ∙ c.self.inside.drafts.ok.0 ∙ sym (length-map c.self.inside.drafts.items draft_of)
    ∙ ap (λ (b : Assembly). length b.drafts) c.self.view_is in
    unanchored_fails c.args.self.now c.args.start_anchored c.args.start_unanchored c.len-len.result len
    (subst (λ (y : ℕ). c.len-len.result ≤ y) c.as_usize-2.ensures.value c.if-as_usize-len-2.true)

pub returns-then-not-are_below : goal.returns-then-not-are_below
returns-then-not-are_below c =
    let len : c.len-len.result ≡ length c.args.self.now.drafts =
    c.len-len.ensures ∙ c.self.inside.drafts.ok.0 ∙ sym (length-map c.self.inside.drafts.items draft_of)
    ∙ ap (λ (b : Assembly). length b.drafts) c.self.view_is in
    starts_fail c.args.self.now c.args.start_anchored c.args.start_unanchored c.len-len.result c.deref.result.now len
    (c.deref.ensures.value ∙ ap (λ (b : Assembly). b.starts) c.self.view_is) c.if-not-are_below.ensures

pub returns-then-not-are_named : goal.returns-then-not-are_named
returns-then-not-are_named c =
    let seen = ap (λ (b : Assembly). b.drafts) c.self.view_is in
    names_fail c.args.self.now c.args.start_anchored c.args.start_unanchored (length c.deref-2.result.now)
    (map draft_of c.deref-2.result.now)
    (ap length c.deref-2.ensures.value ∙ sym (length-map c.self.inside.drafts.items draft_of) ∙ ap length seen)
    (ap (map draft_of) c.deref-2.ensures.value ∙ seen) c.if-not-are_named.ensures
