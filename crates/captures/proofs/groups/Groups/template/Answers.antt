use Rattle.std.proofs.Common.{◌≡◌, ◌⊎◌, ◌<◌, ◌≤◌, ℕ, List, Some, length, slice_get, sym, ap, ◌∙◌, subst, arith}
use Rattle.std.proofs.lemmas.Option.{slice_get-get_or}
use Rattle.templates.specs.Expansion.{template_text}
use Rattle.captures.specs.Replacing.{by_template}
use Rattle.captures.proofs.TemplateLemmas.{all_templates, read_template, template_added}
use Rattle.captures.proofs.groups.Groups.template.Goals as goal

pub loop-pattern-preserved : goal.loop-pattern-preserved
loop-pattern-preserved c =
    let i = c.loop-pattern.pattern-index in
    let ps = c.args.self.now.patterns.items in
    let p = c.pattern-item.result in
    let t = c.in_ok-template.template in
    let below : i < length ps = omega arith in
    let listed : slice_get ps i ≡ Some p =
    ap (λ zs. slice_get zs i) (sym c.deref-pattern-items.ensures.value)
    ∙ slice_get-get_or c.deref-pattern-items.result.now i p c.loop-pattern-test.true ∙ ap Some (sym c.pattern-item.is) in (
      omega arith,
      λ o texts of. template_added o.syntax (by_template o.syntax c.args.replacement.now) c.loop-pattern.groups c.larger-groups.result
          texts ps c.loop-pattern.templates.items c.push.new.templates.items i p t (omega arith) of.patterns below listed
          (c.loop-pattern.invariant.1 o texts of) c.in_ok-push.ensures
          (λ x named. read_template o.syntax c.args.replacement.now c.larger-groups.result c.groups_read-read.result x p t named
          c.in_ok-template.ensures (omega arith)
          (subst (λ (k : ℕ). (a b : ℕ → List ℕ) → ((n : ℕ) → (n < c.groups_read-read.result) ⊎ (k ≤ n) → a n ≡ b n) →
          template_text a t ≡ template_text b t) c.group_count.ensures c.groups_read-read.ensures)),
    )

pub returns : goal.returns
returns c =
    λ o texts of. all_templates o.syntax (by_template o.syntax c.args.replacement.now) c.loop-pattern.groups texts
    c.args.self.now.patterns.items c.loop-pattern.templates.items c.loop-pattern.pattern-index of.patterns (omega arith)
    (c.loop-pattern.invariant.1 o texts of)
