-- Templates that are read for patterns, one by one.
use Rattle.std.proofs.Common.{◌≡◌, ◌⊎◌, ◌<◌, ◌≤◌, ◌+◌, ℕ, zero, suc, List, [], ◌∷◌, ◌++◌, length, slice_get, take, chars, Option, Some, None, IsSomeAnd, sym, ap, ◌∙◌, subst, inl, inr, ⊎_elim, arith, take_all}
use Rattle.std.proofs.lemmas.Option.{none-some, same_Some, slice_get-get_or}
use Rattle.regex_syntax.specs.Brackets.{Nested}
use Rattle.regex_hir.specs.Re.{Re}
use Rattle.regex_syntax.specs.Grammar.{Names, read}
use Rattle.regex_syntax.specs.declared.Config.{Config}
use Rattle.regex.specs.Templates.{written_after}
use Rattle.group_finder.specs.Patterns.{IsNamedBy}
use Rattle.templates.specs.Expansion.{IsLiteral, IsReadFrom, names_in, names_of_read, template_text}
use Rattle.templates.specs.declared.template.Template.{Template}
use Rattle.captures.specs.declared.pattern_groups.PatternGroups.{PatternGroups}
use Rattle.captures.specs.Patterns.{ArePatternGroups, IsPatternGroups}
use Rattle.captures.specs.Replacing.{AreTemplatesFor, IsTemplateFor, Said, as_literal, by_template}
use Rattle.captures.proofs.PatternLemmas.{as_many, groups_at_number}

known_of : (names : Names) (r : Option (Nested Re × Names)) → IsSomeAnd r (λ (re, found). names ≡ found) → names ≡ names_of_read r
known_of names None h = absurd h
known_of names (Some found) h = h

names_known : (config : Config) (text : List ℕ) (names : Names) → IsNamedBy config text names → names ≡ names_in config text
names_known config text names named = known_of names (read config (chars text)) named

-- more groups are no harm
more_groups : (config : Config) (said : Said) (groups more : ℕ) (x : List ℕ) (t : Template) → groups ≤ more →
    IsTemplateFor config said groups x t → IsTemplateFor config said more x t
more_groups config said groups more x t le is = record {
  writes = is.writes;
  reads = λ a b agree. is.reads a b
      (λ n known. agree n (⊎_elim (λ (lt : n < groups). inl (omega (arith, lt, le))) (λ past. inr past) known));
}

module _ (config : Config) (said : Said) where
  pub one_more_template : (groups more : ℕ) (xs : List (List ℕ)) (ts : List Template) (i : ℕ) (x : List ℕ) (t : Template) → groups ≤ more →
      AreTemplatesFor config said groups (take i xs) ts → slice_get xs i ≡ Some x → IsTemplateFor config said more x t →
      AreTemplatesFor config said more (take (suc i) xs) (ts ++ t ∷ [])
  one_more_template groups more [] ts i x t le all listed is = absurd (none-some x listed)
  one_more_template groups more (y ∷ xs) [] zero x t le all listed is =
      (subst (λ z. IsTemplateFor config said more z t) (sym (same_Some y x listed)) is, tt)
  one_more_template groups more (y ∷ xs) (u ∷ ts) zero x t le all listed is = absurd all
  one_more_template groups more (y ∷ xs) [] (suc i) x t le all listed is = absurd all
  one_more_template groups more (y ∷ xs) (u ∷ ts) (suc i) x t le all listed is =
      (more_groups config said groups more y u le all.0, one_more_template groups more xs ts i x t le all.1 listed is)

  pub template_added : (groups more : ℕ) (texts : List (List ℕ)) (ps : List PatternGroups) (old new : List Template) (i : ℕ) (p : PatternGroups)
      (t : Template) → groups ≤ more → ArePatternGroups config texts ps → i < length ps → slice_get ps i ≡ Some p →
      AreTemplatesFor config said groups (take i texts) old → new ≡ old ++ t ∷ [] →
      ((x : List ℕ) → IsPatternGroups config x p → IsTemplateFor config said more x t) →
      AreTemplatesFor config said more (take (i + 1) texts) new
  template_added groups more texts ps old new i p t le of below listed all pushed is =
      let many = as_many config texts ps of in
      let text = slice_get-get_or texts i [] (omega (arith, below, many)) in
      let next : suc i ≡ i + 1 = omega arith in
      subst (λ n. AreTemplatesFor config said more (take n texts) new) next
      (subst (AreTemplatesFor config said more (take (suc i) texts)) (sym pushed)
      (one_more_template groups more texts old i _ t le all text (is _ (groups_at_number config texts ps i _ p of text listed))))

  pub all_templates : (groups : ℕ) (texts : List (List ℕ)) (ps : List PatternGroups) (ts : List Template) (i : ℕ) →
      ArePatternGroups config texts ps → length ps ≤ i → AreTemplatesFor config said groups (take i texts) ts →
      AreTemplatesFor config said groups texts ts
  all_templates groups texts ps ts i of above all =
      subst (λ xs. AreTemplatesFor config said groups xs ts) (take_all i texts (omega (arith, above, as_many config texts ps of))) all

-- ---- a template, and a literal
pub read_template : (config : Config) (replacement : List ℕ) (more read : ℕ) (x : List ℕ) (p : PatternGroups) (t : Template) →
    IsPatternGroups config x p → IsReadFrom p.names replacement t → read ≤ more →
    ((a b : ℕ → List ℕ) → ((n : ℕ) → (n < read) ⊎ (length p.names ≤ n) → a n ≡ b n) → template_text a t ≡ template_text b t) →
    IsTemplateFor config (by_template config replacement) more x t
read_template config replacement more read x p t of is le reads =
    let named = names_known config x p.names of.named in
    record {
      writes = λ group_text. is group_text ∙ ap (λ ns. written_after ns group_text replacement 0) named;
      reads = λ a b agree. reads a b (λ n known. agree n (⊎_elim (λ (lt : n < read). inl (omega (arith, lt, le)))
          (λ (past : length p.names ≤ n). inr (subst (λ (ns : Names). length ns ≤ n) named past)) known));
    }

pub literal_template : (config : Config) (bytes : List ℕ) (groups : ℕ) (x : List ℕ) (t : Template) → IsLiteral bytes t →
    IsTemplateFor config (as_literal bytes) groups x t
literal_template config bytes groups x t is = record { writes = is; reads = λ a b agree. is a ∙ sym (is b) }

pub reads_next : (a b : ℕ → List ℕ) (k count : ℕ) → ((n : ℕ) → (n < k + 1) ⊎ (count ≤ n) → a n ≡ b n) → (n : ℕ) → n ≤ k → a n ≡ b n
reads_next a b k count agree n le = agree n (inl (omega (arith, le)))
