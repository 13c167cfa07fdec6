use Rattle.std.proofs.Common.{◌∙◌, ap, sym, refl, inr}
use Rattle.search_types.specs.declared.anchored.Anchored.{Anchored}
use Rattle.determinize_core.specs.Starts.{start_of}
use Rattle.lazy_dfa.specs.Dfas.{start_in, first_state}
use Rattle.lazy_dfa.specs.StartCalls.{mode_of}
use Rattle.lazy_dfa.proofs.CacheChanges.StartCallLemmas.{slot_inside, fine_of, allowed_of, known_here, start_left, start_needs}
use Rattle.lazy_dfa.proofs.CacheChanges.StartCallLemmas.{start_noted_at, start_tagged, start_fits, start_known}
use Rattle.lazy_dfa.proofs.CacheChanges.StartCallLemmas.{not_none}
use Rattle.lazy_dfa.specs.Ids.{unknown_id}
use Rattle.lazy_dfa.proofs.CacheChanges.AddsLemmas.{start_adds}
use Rattle.lazy_dfa.proofs.automaton.dfa.DFA.start_state.Goals as goal
use Rattle.lazy_dfa.proofs.CacheChanges.LinkedLemmas.{held_named}

pub start_in_mode-requires-clause-inside : goal.start_in_mode-requires-clause-inside
start_in_mode-requires-clause-inside g c =
    let number = c.mode_number-number.ensures.value ∙ ap mode_of c.get_anchored-3.ensures in
    slot_inside c.args.self.now c.args.cache.now c.args.config.now.anchored c.start_behind-start.result c.in-Some-name_of.name
    c.mode_number-number.result c.is_made.ensures c.requires
    (fine_of c.args.self.now c.args.config.now c.check_start.result c.get_look_behind-look_behind.result c.get_anchored.result
    c.in_default.is c.check_start.ensures
    c.get_look_behind-look_behind.ensures c.get_anchored.ensures)
    number
    (ap (start_in c.args.self.now) (number ∙ sym (ap mode_of c.get_anchored-2.ensures)) ∙ sym c.in-Some-name_of.ensures.name)

pub returns-in-Ok-clause-made : goal.returns-in-Ok-clause-made
returns-in-Ok-clause-made g c =
    let x = c.in-Ok.ensures in
    let named = c.in-Some-name_of.ensures.name ∙ ap (λ (m : Anchored). start_in c.args.self.now (mode_of m)) c.get_anchored-2.ensures in
    let number = c.mode_number-number.ensures.value ∙ ap mode_of c.get_anchored-3.ensures in
    let is = c.start_behind-start.ensures ∙ ap (start_of c.args.self.now.nfa.terminator) c.get_look_behind-look_behind.ensures in
    let allowed = allowed_of c.args.self.now c.args.config.now c.check_start.result c.get_look_behind-look_behind.result
    c.get_anchored.result c.in_default.is c.check_start.ensures c.get_look_behind-look_behind.ensures c.get_anchored.ensures in
    let reported = known_here c.args.self.now c.args.config.now c.mode_number-number.result c.in-Some-name_of.name
    c.start_behind-start.result named number is c.args.cache.now allowed in
    record {
      held = held_named c.start_in_mode.new.cache c.in-Ok.id
          (first_state c.args.self.now c.start_behind-start.result c.in-Some-name_of.name) x.answer.start;
      noted = λ q e. start_noted_at c.args.self.now c.args.config.now c.mode_number-number.result c.in-Some-name_of.name
          c.start_behind-start.result named number is c.start_in_mode.new.cache c.in-Ok.id x.answer.noted;
      known = λ none q e k. start_known c.args.self.now c.args.config.now c.mode_number-number.result c.in-Some-name_of.name
          c.start_behind-start.result named number is c.args.cache.now c.in-Ok.id _ _
          refl refl (x.answer.known (reported (inr (inr k))));
      none = λ none e. absurd (not_none _ c.in-Some-name_of.name (sym named) e);
      same = λ k. x.changes.same (reported k);
      free = λ k. x.made.free (reported k);
      kept = x.changes.kept;
      remains = start_left c.args.self.now c.args.config.now c.mode_number-number.result c.in-Some-name_of.name
          c.start_behind-start.result named number is c.args.cache.now c.start_in_mode.new.cache x.changes.remains;
      cause = start_needs c.args.self.now c.args.config.now c.mode_number-number.result c.in-Some-name_of.name
          c.start_behind-start.result named number is c.args.cache.now c.start_in_mode.new.cache x.changes.cause;
      adds = start_adds c.args.self.now c.args.config.now c.mode_number-number.result c.in-Some-name_of.name
          c.start_behind-start.result c.args.cache.now c.start_in_mode.new.cache allowed named is x.changes.adds;
      ok = start_fits c.args.self.now c.args.config.now c.mode_number-number.result c.in-Some-name_of.name
          c.start_behind-start.result named number is c.args.cache.now x.answer.ok;
      tag = start_tagged c.args.self.now c.args.config.now c.mode_number-number.result c.in-Some-name_of.name
          c.start_behind-start.result named number is c.args.cache.now c.in-Ok.id x.answer.tag;
      determinized = x.made.determinized;
      inserted = x.made.inserted;
    }

pub returns-in-Err-clause-made : goal.returns-in-Err-clause-made
returns-in-Err-clause-made g c =
    let x = c.in-Err.ensures in
    let named = c.in-Some-name_of.ensures.name ∙ ap (λ (m : Anchored). start_in c.args.self.now (mode_of m)) c.get_anchored-2.ensures in
    let number = c.mode_number-number.ensures.value ∙ ap mode_of c.get_anchored-3.ensures in
    let is = c.start_behind-start.ensures ∙ ap (start_of c.args.self.now.nfa.terminator) c.get_look_behind-look_behind.ensures in
    let allowed = allowed_of c.args.self.now c.args.config.now c.check_start.result c.get_look_behind-look_behind.result
    c.get_anchored.result c.in_default.is c.check_start.ensures c.get_look_behind-look_behind.ensures c.get_anchored.ensures in
    let reported = known_here c.args.self.now c.args.config.now c.mode_number-number.result c.in-Some-name_of.name
    c.start_behind-start.result named number is c.args.cache.now allowed in
    record {
      held = tt;
      noted = tt;
      known = λ none q e k. absurd (k (start_noted_at c.args.self.now c.args.config.now c.mode_number-number.result c.in-Some-name_of.name
          c.start_behind-start.result named number is c.args.cache.now unknown_id x.answer.unknown));
      none = λ none e. absurd (not_none _ c.in-Some-name_of.name (sym named) e);
      same = λ k. x.changes.same (reported k);
      free = λ k. x.made.free (reported k);
      kept = x.changes.kept;
      remains = tt;
      cause = start_needs c.args.self.now c.args.config.now c.mode_number-number.result c.in-Some-name_of.name
          c.start_behind-start.result named number is c.args.cache.now c.start_in_mode.new.cache x.changes.cause;
      adds = start_adds c.args.self.now c.args.config.now c.mode_number-number.result c.in-Some-name_of.name
          c.start_behind-start.result c.args.cache.now c.start_in_mode.new.cache allowed named is x.changes.adds;
      ok = tt;
      tag = tt;
      determinized = x.made.determinized;
      inserted = x.made.inserted;
    }
