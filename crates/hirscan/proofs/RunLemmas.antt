-- What a run leaves, from what its three steps leave.
use Rattle.std.proofs.Common.{◌≡◌, ℕ, ◌+◌, ◌-◌, ◌^◌, ◌≤◌, List, length, take, drop, Option, Some, None, sym, ◌∙◌, ap, subst, arith}
use Rattle.std.proofs.Common.{length-take}
use Rattle.std.proofs.Common.{length-append}
use Rattle.std.proofs.Math.Seq.{take-add}
use Rattle.hirscan.proofs.ReplyLemmas.{reply_of_whole}
use Rattle.hirscan.proofs.SliceLemmas.{rest_of_slice}
use Rattle.std.proofs.KnownBytes.{Appends-trans, Consumes-trans}
use Rattle.std.specs.Prelude.{IfSome}
use Rattle.std.specs.Io.KnownBytes.{Appends, Consumes, IsAtEnd}
use Rattle.hirscan.specs.declared.ending.Ending.{Ending}
use Rattle.hirscan.specs.declared.program.RunError.{RunError}
use Rattle.hirscan.specs.declared.program.RunError.TheVariants.{Read, Write, NoMemory}
use Rattle.hirscan.specs.Reply.{IsReply}
use Rattle.hirscan.specs.Runs.{ReadsSome, WritesReply, WritesAtFault}

-- what is written of some bytes, if n bytes of their rest were taken
pub more_in_text : (text : List ℕ) (done n : ℕ) → done ≤ length text → n ≤ length (take (length text - done) (drop done text)) →
    done + n ≤ length text
more_in_text text done n p q = omega (arith, length-take (length text - done) (drop done text))

pub appends_more : (a b c : Option (List ℕ)) (text : List ℕ) (done n : ℕ) → Appends a b (take done text) →
    Appends b c (take n (take (length text - done) (drop done text))) → Appends a c (take (done + n) text)
appends_more a b c text done n p q =
    subst (Appends a c) (sym (take-add done n text))
    (Appends-trans a b c (take done text) (take n (drop done text)) p (rw rest_of_slice at q))

-- what stays after a write appended, stays appended
if_some_reply : (input before after : Option (List ℕ)) (ending : Ending) (text : List ℕ) →
    IfSome input (λ bytes. IsReply bytes ending text) →
    Appends before after text → WritesReply input before after ending
if_some_reply None before after ending text reply written = tt
if_some_reply (Some bytes) before after ending text reply written = (text, reply, written)

if_some_prefix : (input before after : Option (List ℕ)) (ending : Ending) (text : List ℕ) (n : ℕ) (e : RunError) → e ≡ Write →
    IfSome input (λ bytes. IsReply bytes ending text) → Appends before after (take n text) → WritesAtFault input before after e
if_some_prefix None before after ending text n Write is reply written = tt
if_some_prefix (Some bytes) before after ending text n Write is reply written = (ending, text, n, reply, written)
if_some_prefix input before after ending text n Read is reply written = cc
if_some_prefix input before after ending text n NoMemory is reply written = cc

-- The bytes that were read, the reply to them and what was written of it, each as code passes it on, say what a run leaves.
module _ (input left before after : Option (List ℕ)) (bytes items text written : List ℕ) (ending : Ending) (same : bytes ≡ items)
    (read : Consumes input left items) (whole : length items ≤ 2 ^ 30 →
    IsAtEnd left) (reply : IsReply bytes ending text) (all : written ≡ text) where
  reply_known : IfSome input (λ known. IsReply known ending text)
  reply_known = reply_of_whole input left items ending text read whole (subst (λ (xs : List ℕ). IsReply xs ending text) same reply)

  pub writes_reply : Appends before after written → WritesReply input before after ending
  writes_reply done = if_some_reply input before after ending text reply_known (subst (Appends before after) all done)

  pub writes_prefix : (e : RunError) → (e ≡ Write) × (n : ℕ) × Appends before after (take n written) → WritesAtFault input before after e
  writes_prefix e part =
      if_some_prefix input before after ending text part.1 e part.0 reply_known
      (subst (λ (xs : List ℕ). Appends before after (take part.1 xs)) all part.2)

-- ---- what one more read leaves

pub read_on : (a b c : Option (List ℕ)) (old new : List ℕ) (n : ℕ) → Consumes a b old → ReadsSome b c old new n → Consumes a c new
read_on a b c old new n p q = subst (Consumes a c) (sym q.appended) (Consumes-trans a b c old q.bytes p q.taken)

-- as many bytes as there is room for don't pass the limit
pub within : (b c : Option (List ℕ)) (old new : List ℕ) (n room len : ℕ) (buffer : List ℕ) → ReadsSome b c old new n →
    n ≤ length (take room buffer) → room ≤ 2 ^ 30 + 1 - len → len ≡ length old → length old ≤ 2 ^ 30 + 1 → length new ≤ 2 ^ 30 + 1
within b c old new n room len buffer q fits small is few =
    let grown : length new ≡ length old + n =
    ap length q.appended ∙ (length-append old q.bytes ∙ ap (λ (k : ℕ). length old + k) q.counted) in
    omega (arith, grown, fits, small, is, few, length-take room buffer)
