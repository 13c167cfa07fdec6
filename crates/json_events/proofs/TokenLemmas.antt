-- Which member of an object bytes have.
use Rattle.std.proofs.Common.{◌≡◌, ℕ, Bool, true, false, List, codes, refl, sym, ap, ◌∙◌, if◌then◌else◌}
use Rattle.std.proofs.lemmas.Str.{IsUtf8-from_is_utf8, is_utf8-from_IsUtf8}
use Rattle.std.specs.Str.{IsUtf8, is_utf8}
use Rattle.base64.specs.Engines.{standard}
use Rattle.base64.specs.GeneralPurpose.{encode_of}
use Rattle.json.specs.Token.{Token}
use Rattle.json_events.specs.Events.{bytes_member, text_value}

abbrev member_by : List ℕ → Bool → List Token
member_by bytes b = if b then text_value (codes "text") bytes else text_value (codes "bytes") (encode_of standard bytes)

pub text_member : (bytes text : List ℕ) → text ≡ bytes → IsUtf8 bytes → text_value (codes "text") text ≡ bytes_member bytes
text_member bytes text same good =
    ap (text_value (codes "text")) same ∙ sym (ap (member_by bytes) (is_utf8-from_IsUtf8 bytes good))

false_if : (b : Bool) → (b ≡ true → ⊥) → b ≡ false
false_if true wrong = absurd (wrong refl)
false_if false _ = refl

pub encoded_member : (bytes : List ℕ) → (IsUtf8 bytes → ⊥) → text_value (codes "bytes") (encode_of standard bytes) ≡ bytes_member bytes
encoded_member bytes bad = sym (ap (member_by bytes) (false_if (is_utf8 bytes) (λ e. bad (IsUtf8-from_is_utf8 bytes e))))
