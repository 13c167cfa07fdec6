-- Writing into the bytes of a state that is being built changes the written part alone.
use Rattle.std.proofs.Common.{◌≡◌, ℕ, zero, suc, ◌+◌, ◌-◌, ◌*◌, ◌/◌, ◌<◌, ◌≤◌, Bool, true, false, List, [], ◌∷◌, ◌++◌, length, take, drop}
use Rattle.std.proofs.Common.{refl, sym, ap, ◌∙◌, arith, append_assoc, append-nil, subst}
use Rattle.std.specs.Prelude.{All, slice_index, slice_set}
use Rattle.std.specs.Int.Bits.{bit_or}
use Rattle.look_core.specs.LookSets.{IsLookSet}
use Rattle.search_core.specs.Index.{greatest_index}
use Rattle.determinize_core.specs.States.{StateValue, IsState, last_id}
use Rattle.determinize_core.specs.StateBytes.{has_flag, first_bytes, in_four_bytes, four_bytes_each, pattern_bytes}
use Rattle.determinize_core.specs.StateBytes.{id_bytes, groups, zigzag}
use Rattle.determinize_core.specs.StateBytes.{is_match, is_listed, encoded, decoded, IsEncoded, unfinished, decoded_unfinished}
use Rattle.determinize_core.specs.StateBytes.{IsUnfinished}
use Rattle.determinize_core.proofs.FlagLemmas.{set_word, set_half, listed_back}
use Rattle.determinize_core.proofs.DecodeLemmas.{length-four_bytes_each}
use Rattle.determinize_core.proofs.ValueLemmas.{decoded_unfinished_back, is_encoded, value_back, few}

-- the bytes with the number of the patterns, if they are listed
abbrev pub with_count : Bool → List ℕ → List ℕ
with_count true bytes = take 9 bytes ++ (in_four_bytes ((length bytes - 13) / 4) ++ drop 13 bytes)
with_count false bytes = bytes

-- bytes that are those of a value stand for that value
pub told_unfinished : (v : StateValue) (bytes : List ℕ) → IsState v → v.ids ≡ [] → bytes ≡ unfinished v → IsUnfinished bytes ×
    (decoded_unfinished bytes ≡ v)
told_unfinished v bytes state none e =
    let d : decoded_unfinished bytes ≡ v = ap decoded_unfinished e ∙ decoded_unfinished_back v state none in
    (record { same = e ∙ ap unfinished (sym d); state = subst (λ (w : StateValue). IsState w) (sym d) state }, d)

pub told_encoded : (v : StateValue) (bytes : List ℕ) → IsState v → bytes ≡ encoded v → IsEncoded bytes × (decoded bytes ≡ v)
told_encoded v bytes state e = (is_encoded v bytes state e, value_back v bytes state e)

-- the flags
pub keeps_word : (old new : List ℕ) → IsUnfinished old → new ≡ slice_set old 0 (bit_or (slice_index old 0) 4) → IsUnfinished new ×
    (decoded_unfinished new ≡ record (decoded_unfinished old) { is_from_word = true })
keeps_word old new of e = told_unfinished (record (decoded_unfinished old) { is_from_word = true }) new (record {
  have = of.state.have;
  need = of.state.need;
  patterns = of.state.patterns;
  once = of.state.once;
  states = of.state.states;
}) refl
    (e ∙ (ap (λ (xs : List ℕ). slice_set xs 0 (bit_or (slice_index xs 0) 4)) of.same ∙ written (decoded_unfinished old)))
  where
    written : (v : StateValue) → slice_set (unfinished v) 0 (bit_or (slice_index (unfinished v) 0) 4) ≡ unfinished
        (record v { is_from_word = true })
    written v =
        ap (λ (f : ℕ). f ∷ ((in_four_bytes v.look_have ++ in_four_bytes v.look_need) ++ pattern_bytes (is_listed v.matches) 0 v.matches))
        (set_word (is_match v.matches) (is_listed v.matches) v.is_from_word v.is_half_crlf)

pub keeps_half : (old new : List ℕ) → IsUnfinished old → new ≡ slice_set old 0 (bit_or (slice_index old 0) 8) → IsUnfinished new ×
    (decoded_unfinished new ≡ record (decoded_unfinished old) { is_half_crlf = true })
keeps_half old new of e = told_unfinished (record (decoded_unfinished old) { is_half_crlf = true }) new (record {
  have = of.state.have;
  need = of.state.need;
  patterns = of.state.patterns;
  once = of.state.once;
  states = of.state.states;
}) refl
    (e ∙ (ap (λ (xs : List ℕ). slice_set xs 0 (bit_or (slice_index xs 0) 8)) of.same ∙ written (decoded_unfinished old)))
  where
    written : (v : StateValue) → slice_set (unfinished v) 0 (bit_or (slice_index (unfinished v) 0) 8) ≡ unfinished
        (record v { is_half_crlf = true })
    written v =
        ap (λ (f : ℕ). f ∷ ((in_four_bytes v.look_have ++ in_four_bytes v.look_need) ++ pattern_bytes (is_listed v.matches) 0 v.matches))
        (set_half (is_match v.matches) (is_listed v.matches) v.is_from_word v.is_half_crlf)

pub keeps_have : (old new : List ℕ) (looks : ℕ) → IsEncoded old → IsLookSet looks →
    new ≡ take 1 old ++ (in_four_bytes looks ++ drop 5 old) →
    IsEncoded new × (decoded new ≡ record (decoded old) { look_have = looks })
keeps_have old new looks of within e = told_encoded (record (decoded old) { look_have = looks }) new (record {
  have = within;
  need = of.state.need;
  patterns = of.state.patterns;
  once = of.state.once;
  states = of.state.states;
})
    (e ∙ ap (λ (xs : List ℕ). take 1 xs ++ (in_four_bytes looks ++ drop 5 xs)) of.same)

pub keeps_need : (old new : List ℕ) (looks : ℕ) → IsEncoded old → IsLookSet looks →
    new ≡ take 5 old ++ (in_four_bytes looks ++ drop 9 old) →
    IsEncoded new × (decoded new ≡ record (decoded old) { look_need = looks })
keeps_need old new looks of within e = told_encoded (record (decoded old) { look_need = looks }) new (record {
  have = of.state.have;
  need = within;
  patterns = of.state.patterns;
  once = of.state.once;
  states = of.state.states;
})
    (e ∙ ap (λ (xs : List ℕ). take 5 xs ++ (in_four_bytes looks ++ drop 9 xs)) of.same)

-- a state is added as the last one
ids_more : (before : ℕ) (ids : List ℕ) (q : ℕ) → id_bytes before (ids ++ q ∷ []) ≡ id_bytes before ids
    ++ groups 4 (zigzag (last_id before ids) q)
ids_more before [] q = append-nil (groups 4 (zigzag before q))
ids_more before (p ∷ ps) q = ap (λ (xs : List ℕ). groups 4 (zigzag before p) ++ xs) (ids_more p ps q)
    ∙ sym (append_assoc (groups 4 (zigzag before p)) (id_bytes p ps) (groups 4 (zigzag (last_id p ps) q)))

last_more : (before : ℕ) (ids : List ℕ) (q : ℕ) → last_id before (ids ++ q ∷ []) ≡ q
last_more before [] q = refl
last_more before (p ∷ ps) q = last_more p ps q

pub all_more : (bound : ℕ) (xs : List ℕ) (x : ℕ) → All (λ y. y ≤ bound) xs → x ≤ bound → All (λ y. y ≤ bound) (xs ++ x ∷ [])
all_more bound [] x all within zero d p = within
all_more bound [] x all within (suc k) d p = absurd (omega arith)
all_more bound (y ∷ ys) x all within zero d p = all 0 0 (omega arith)
all_more bound (y ∷ ys) x all within (suc k) d p = all_more bound ys x (λ j e h. all (suc j) e (omega arith)) within k d (omega arith)

join_bytes : (xs ys zs ws us : List ℕ) → us ≡ zs ++ ws → (xs ++ (ys ++ zs)) ++ ws ≡ xs ++ (ys ++ us)
join_bytes xs ys zs ws us h = append_assoc xs (ys ++ zs) ws ∙ ap (λ (l : List ℕ). xs ++ l) (append_assoc ys zs ws
    ∙ ap (λ (l : List ℕ). ys ++ l) (sym h))

id_written : (v : StateValue) (q : ℕ) → encoded v ++ groups 4 (zigzag (last_id 0 v.ids) q) ≡ encoded (record v { ids = v.ids ++ q ∷ [] })
id_written v q = join_bytes (first_bytes v) (pattern_bytes (is_listed v.matches) (length v.matches) v.matches) (id_bytes 0 v.ids)
    (groups 4 (zigzag (last_id 0 v.ids) q)) (id_bytes 0 (v.ids ++ q ∷ [])) (ids_more 0 v.ids q)

pub keeps_id : (old new : List ℕ) (q : ℕ) → IsEncoded old → q ≤ greatest_index →
    new ≡ old ++ groups 4 (zigzag (last_id 0 (decoded old).ids) q) →
    IsEncoded new × (decoded new ≡ record (decoded old) { ids = (decoded old).ids ++ q ∷ [] }) × (q ≡ last_id 0 (decoded new).ids)
keeps_id old new q of within e =
    let written : new ≡ encoded (record (decoded old) { ids = (decoded old).ids ++ q ∷ [] }) =
    e ∙ (ap (λ (xs : List ℕ). xs ++ groups 4 (zigzag (last_id 0 (decoded old).ids) q)) of.same ∙ id_written (decoded old) q) in
    let reported = told_encoded (record (decoded old) { ids = (decoded old).ids ++ q ∷ [] }) new (record {
      have = of.state.have;
      need = of.state.need;
      patterns = of.state.patterns;
      once = of.state.once;
      states =
          all_more greatest_index (decoded old).ids q of.state.states within;
    }) written in
    (reported.0, reported.1, sym (ap (λ (v : StateValue). last_id 0 v.ids) reported.1 ∙ last_more 0 (decoded old).ids q))

-- the number of patterns is written if they are listed
written_count : (l : Bool) (v : StateValue) (bytes : List ℕ) → v.ids ≡ [] → is_listed v.matches ≡ l →
    bytes ≡ first_bytes v ++ pattern_bytes l 0 v.matches →
    first_bytes v ++ (pattern_bytes l (length v.matches) v.matches ++ id_bytes 0 v.ids) ≡ with_count l bytes
written_count true v bytes none listed e =
    let tail : (in_four_bytes (length v.matches) ++ four_bytes_each v.matches) ++ id_bytes 0 v.ids ≡ in_four_bytes (length v.matches)
    ++ four_bytes_each v.matches =
    ap (λ (qs : List ℕ). (in_four_bytes (length v.matches) ++ four_bytes_each v.matches) ++ id_bytes 0 qs) none
    ∙ append-nil (in_four_bytes (length v.matches) ++ four_bytes_each v.matches) in
    let len : length bytes ≡ 13 + 4 * length v.matches = ap length e ∙ omega (arith, length-four_bytes_each v.matches) in
    let count : (length bytes - 13) / 4 ≡ length v.matches = omega (arith, len) in
    ap (λ (xs : List ℕ). first_bytes v ++ xs) tail
    ∙ (ap (λ (n : ℕ). first_bytes v ++ (in_four_bytes n ++ four_bytes_each v.matches)) (sym count)
    ∙ ap (λ (xs : List ℕ). take 9 xs ++ (in_four_bytes ((length bytes - 13) / 4) ++ drop 13 xs)) (sym e))
written_count false v bytes none listed e = ap (λ (qs : List ℕ). first_bytes v ++ id_bytes 0 qs) none ∙ sym e

pub keeps_all : (old new : List ℕ) (l : Bool) → IsUnfinished old → has_flag (slice_index old 0) 2 ≡ l → new ≡ with_count l old →
    IsEncoded new × (decoded new ≡ decoded_unfinished old)
keeps_all old new l of flag e =
    let listed : is_listed (decoded_unfinished old).matches ≡ l =
    sym (listed_back _ _ _ _) ∙ (sym (ap (λ (xs : List ℕ). has_flag (slice_index xs 0) 2) of.same) ∙ flag) in
    let written = written_count l (decoded_unfinished old) old refl listed (of.same
    ∙ ap (λ (t : Bool). first_bytes (decoded_unfinished old) ++ pattern_bytes t 0 (decoded_unfinished old).matches) listed) in
    let form = ap (λ (t : Bool). first_bytes (decoded_unfinished old) ++
    (pattern_bytes t (length (decoded_unfinished old).matches) (decoded_unfinished old).matches
    ++ id_bytes 0 (decoded_unfinished old).ids)) listed in
    told_encoded (decoded_unfinished old) new of.state (e ∙ (sym written ∙ sym form))

pub count_fits : (old : List ℕ) → IsUnfinished old → has_flag (slice_index old 0) 2 ≡ true → (length old - 13) / 4 < 4294967296
count_fits old of flag =
    let listed : is_listed (decoded_unfinished old).matches ≡ true =
    sym (listed_back _ _ _ _) ∙ (sym (ap (λ (xs : List ℕ). has_flag (slice_index xs 0) 2) of.same) ∙ flag) in
    let form = of.same ∙ ap (λ (t : Bool). first_bytes (decoded_unfinished old)
    ++ pattern_bytes t 0 (decoded_unfinished old).matches) listed in
    let len : length old ≡ 13 + 4 * length (decoded_unfinished old).matches =
    ap length form ∙ omega (arith, length-four_bytes_each (decoded_unfinished old).matches) in
    omega (arith, len, few (decoded_unfinished old) of.state)
