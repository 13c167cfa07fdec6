use Rattle.std.proofs.Common.{◌≡◌, ◌++◌, ◌∷◌, [], List, sym, ap, subst, ◌∙◌, Global, String}
use Rattle.std.specs.Prelude.{Option}
use Rattle.std.specs.Option.{option_map}
use Rattle.std.specs.String.{string_bytes}
use Rattle.search_types.specs.Groups.{Name}
use Rattle.search_types.specs.GroupFaults.{names_in, group_fault_after, pattern_fault}
use Rattle.search_types.specs.GroupIndices.{FindsEach}
use Rattle.search_types.proofs.GroupLoopLemmas.{failed, seen_pushed, all_seen, sound_first, sound_rest, room_pushed}
use Rattle.search_types.proofs.GroupLoopLemmas.{all_read, some_read, room_seen}
use Rattle.search_types.proofs.pattern_groups.PatternGroups.new.Goals as goal

abbrev see : Option (String Global) → Option Name
see name = option_map string_bytes name

pub note_group-requires-clause-finds : goal.note_group-requires-clause-finds
note_group-requires-clause-finds c =
    subst (λ (l : List (Option (String Global))). FindsEach (names_in l) c.loop-name.indices) (sym c.deref.ensures.value)
    c.loop-name.invariant.indexed

pub note_group-requires-clause-sound : goal.note_group-requires-clause-sound
note_group-requires-clause-sound c =
    ap (λ (l : List (Option (String Global))). group_fault_after 0 (names_in l) (see c.name-item.result)) c.deref.ensures.value
    ∙ sound_first see c.args.groups.now (names_in c.loop-name.names.items) c.loop-name.name-index c.name-item.result c.loop-name-test.true
    c.name-item.is c.loop-name.invariant.sound

pub loop-name-preserved : goal.loop-name-preserved
loop-name-preserved c =
    let old = c.loop-name.names.items in
    let new = c.push.new.self.items in
    let more : names_in new ≡ names_in old ++ see c.name-item.result ∷ [] =
    seen_pushed see old new c.name-item.result c.in_ok-copy_of.field-0 c.in_ok-copy_of.ensures c.in_ok-push.ensures.items in
    record {
      indexed = subst (λ (l : List (Option Name)). FindsEach l c.note_group.new.indices)
          (ap (λ (l : List (Option (String Global))). names_in l ++ see c.name-item.result ∷ []) c.deref.ensures.value ∙ sym more)
          c.in_ok-note_group.ensures.indexed;
      in_range = room_pushed old new c.deref.result.now c.in_ok-copy_of.field-0 c.in_ok-push.ensures.items c.deref.ensures.value
          c.in_ok-note_group.ensures.in_range;
      all = all_seen see c.args.groups.now old new c.loop-name.name-index c.name-item.result (names_in c.args.groups.now)
          c.loop-name-test.true c.name-item.is more c.loop-name.invariant.all;
      sound = sound_rest see c.args.groups.now old new c.loop-name.name-index c.name-item.result c.loop-name-test.true c.name-item.is
          more c.loop-name.invariant.sound;
    }

pub returns-in_err-note_group : goal.returns-in_err-note_group
returns-in_err-note_group c = failed _ _ c.from_residual.result c.from_residual.ensures.1

pub returns-in_err-copy_of : goal.returns-in_err-copy_of
returns-in_err-copy_of c = failed _ _ c.from_residual-in_err-copy_of.result c.from_residual-in_err-copy_of.ensures.1

pub returns-in_err-push : goal.returns-in_err-push
returns-in_err-push c = failed _ _ c.from_residual-in_err-push.result c.from_residual-in_err-push.ensures.1

pub invariant_of-result : goal.invariant_of-result
invariant_of-result c =
    let all : names_in c.loop-name.names.items ≡ names_in c.args.groups.now =
    all_read see c.args.groups.now c.loop-name.names.items c.loop-name.name-index (names_in c.args.groups.now) c.loop-name-test.false
    c.loop-name.invariant.all in
    record {
      finds = c.loop-name.invariant.indexed;
      some = some_read (names_in c.loop-name.names.items) (names_in c.args.groups.now) all c.requires;
      in_range = room_seen see c.loop-name.names.items c.loop-name.invariant.in_range;
      sound = ap (pattern_fault 0) all ∙ c.requires;
    }

pub returns : goal.returns
returns c =
    all_read see c.args.groups.now c.loop-name.names.items c.loop-name.name-index (names_in c.args.groups.now) c.loop-name-test.false
    c.loop-name.invariant.all
