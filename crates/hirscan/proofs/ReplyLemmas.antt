-- Replies: to a rejected input, and to an input of which so much was read as decides it.
use Rattle.std.proofs.Common.{◌≡◌, ℕ, ◌+◌, ◌-◌, ◌^◌, ◌≤◌, List, [], ◌∷◌, ◌++◌, length, take, drop, Option, Some, None, Result, Ok, Err}
use Rattle.std.proofs.Common.{string_bytes, refl, sym, ap, ◌∙◌, subst, arith, append-nil, length-append}
use Rattle.std.specs.Prelude.{IfOk, IfSome}
use Rattle.std.specs.declared.alloc.AllocError.{AllocError}
use Rattle.std.specs.Io.KnownBytes.{Consumes, IsAtEnd}
use Rattle.hir_core.specs.Tree.{Tree}
use Rattle.hirscan.specs.declared.line.Setup.{Setup}
use Rattle.hirscan.specs.declared.ending.Ending.{Ending}
use Rattle.hirscan.specs.declared.ending.Ending.TheVariants.{Refused}
use Rattle.hirscan.specs.declared.reply.Reply.{Reply}
use Rattle.hirscan.specs.Takes.{QueryValue, Takes, Sets, Replaces, at_first, utf8_line, line_line, two_bytes_line, capacity_line, quit_line}
use Rattle.hirscan.specs.Takes.{classes_line, shrink_line, anchored_line, span_line, empty_line, lit_line, bytes_line, chars_line}
use Rattle.hirscan.specs.Takes.{look_line, rep_line, cat_line, alt_line, pattern_line}
use Rattle.hirscan.specs.Reads.{Reads, reads_find, reads_line}
use Rattle.hirscan.specs.Rejections.{rejection}
use Rattle.hirscan.specs.Reply.{IsInputRejected, too_long, faulty, unfit, IsReply, refused, searched, AnswersQuery, refuses, searches}
use Rattle.hirscan.specs.Reply.{IsSearchReply, error_line}
use Rattle.hirscan.proofs.SliceLemmas.{rest_of_slice}

-- ---- queries

-- a query is no longer than its text
pub head_len_le : (text : List ℕ) (at found : QueryValue) (n : ℕ) → Reads text at found n → n ≤ length text
head_len_le _ _ _ _ (reads_find text line rest at found n parts one ends same len) =
    omega (arith, ap length parts, length-append line (10 ∷ rest))
head_len_le _ _ _ _ (reads_line text line rest at after found n m parts one takes others len) =
    omega (arith, ap length parts, length-append line (10 ∷ rest), head_len_le rest after found m others)

-- a line takes a pattern at most
abbrev IsOneMore : QueryValue → QueryValue → Type 0
IsOneMore before after = length after.patterns ≤ length before.patterns + 1

sets_none : (before after : QueryValue) (new : Setup) → Sets before after new → IsOneMore before after
sets_none before after new s = omega (arith, ap length s.patterns_stay)

replaces_none : (before after : QueryValue) (top : List Tree) (new : Tree) → Replaces before after top new → IsOneMore before after
replaces_none before after top new r = omega (arith, ap length r.patterns_stay)

takes_one : (ws : List (List ℕ)) (before after : QueryValue) → Takes ws before after → IsOneMore before after
takes_one ws before after (utf8_line w on is says s) = sets_none before after _ s
takes_one ws before after (line_line w b is says s) = sets_none before after _ s
takes_one ws before after (two_bytes_line v w b c is first second s) = sets_none before after _ s
takes_one ws before after (capacity_line w n is says s) = sets_none before after _ s
takes_one ws before after (quit_line w b is says s) = sets_none before after _ s
takes_one ws before after (classes_line w on is says s) = sets_none before after _ s
takes_one ws before after (shrink_line w on is says s) = sets_none before after _ s
takes_one ws before after (anchored_line w anchored is says s) = sets_none before after _ s
takes_one ws before after (span_line low high s e is first second sets) = sets_none before after _ sets
takes_one ws before after (empty_line is r) = replaces_none before after _ _ r
takes_one ws before after (lit_line w bytes is says r) = replaces_none before after _ _ r
takes_one ws before after (bytes_line items ranges is some says r) = replaces_none before after _ _ r
takes_one ws before after (chars_line items ranges is some says r) = replaces_none before after _ _ r
takes_one ws before after (look_line w l is says r) = replaces_none before after _ _ r
takes_one ws before after (rep_line low high order min max greedy x is first second third fits r) = replaces_none before after _ _ r
takes_one ws before after (cat_line w n parts is says count r) = replaces_none before after _ _ r
takes_one ws before after (alt_line w n parts is says count r) = replaces_none before after _ _ r
takes_one ws before after (pattern_line is t) = omega (arith, ap length t.patterns_are, length-append before.patterns (t.tree ∷ []))

-- so a query has no more of them than bytes
pub few_patterns : (text : List ℕ) (at found : QueryValue) (n : ℕ) → Reads text at found n → length found.patterns ≤ length at.patterns + n
few_patterns _ _ _ _ (reads_find text line rest at found n parts one ends same len) = omega (arith, ap (λ s. length s.patterns) same)
few_patterns _ _ _ _ (reads_line text line rest at after found n m parts one takes others len) =
    omega (arith, takes_one _ at after takes, few_patterns rest after found m others)

-- ---- replies to an input

-- a reply of one line for a cause that applies
pub reply_of_refusal : (r : Result Reply AllocError) (input cause : List ℕ) → IfOk r (λ x. x.ending ≡ Refused) →
    IfOk r (λ x. string_bytes x.text ≡ error_line cause) → IsInputRejected input cause →
    IfOk r (λ x. IsReply input x.ending (string_bytes x.text))
reply_of_refusal (Ok x) input cause p q applies = refused cause applies p q
reply_of_refusal (Err e) input cause p q applies = tt

reply_of_answer : (input : List ℕ) (at : QueryValue) (n : ℕ) (e : Ending) (t : List ℕ) → length input ≤ 2 ^ 30 → Reads input at_first at n →
    AnswersQuery at.setup at.patterns (drop n input) e t → IsReply input e t
reply_of_answer input at n e t short reads (refuses cause found ends is) = refused cause (unfit at n short reads found) ends is
reply_of_answer input at n e t short reads (searches none reply) =
    searched at.setup at.patterns (drop n input)
    (record { at = at; len = n; short = short; reads = reads; setup_is = refl; patterns_are = refl; haystack_is = refl; fits = none }) reply

-- the reply to a haystack, passed on as that to the whole input
pub reply_of_search : (r : Result Reply AllocError) (input h : List ℕ) (at : QueryValue) (n : ℕ) → length input ≤ 2 ^ 30 →
    Reads input at_first at n →
    h ≡ take (length input - n) (drop n input) → IfOk r (λ x. AnswersQuery at.setup at.patterns h x.ending (string_bytes x.text)) →
    IfOk r (λ x. IsReply input x.ending (string_bytes x.text))
reply_of_search (Ok x) input h at n short reads e answer =
    reply_of_answer input at n x.ending (string_bytes x.text) short reads
    (subst (λ (t : List ℕ). AnswersQuery at.setup at.patterns t x.ending (string_bytes x.text)) (e ∙ rest_of_slice n input) answer)
reply_of_search (Err e) input h at n short reads same answer = tt

-- the same for a haystack with which the query is rejected
pub answer_of_refusal : (r : Result Reply AllocError) (setup : Setup) (xs : List Tree) (h cause : List ℕ) →
    IfOk r (λ x. x.ending ≡ Refused) →
    IfOk r (λ x. string_bytes x.text ≡ error_line cause) → rejection setup xs h ≡ Some cause →
    IfOk r (λ x. AnswersQuery setup xs h x.ending (string_bytes x.text))
answer_of_refusal (Ok x) setup xs h cause p q applies = refuses cause applies p q
answer_of_refusal (Err e) setup xs h cause p q applies = tt

-- and if it is searched
pub answer_of_search : (r : Result Reply AllocError) (setup : Setup) (xs : List Tree) (h : List ℕ) → rejection setup xs h ≡ None →
    IfOk r (λ x. IsSearchReply setup xs h x.ending (string_bytes x.text)) →
    IfOk r (λ x. AnswersQuery setup xs h x.ending (string_bytes x.text))
answer_of_search (Ok x) setup xs h none reply = searches none reply
answer_of_search (Err e) setup xs h none reply = tt

-- ---- what was read is the whole input, or begins one that is too long
at_end_all : (known bytes left : List ℕ) → known ≡ bytes ++ left → left ≡ [] → bytes ≡ known
at_end_all known bytes left p e = sym (p ∙ ap (λ l. bytes ++ l) e ∙ append-nil bytes)

reply_of_short : (known left bytes : List ℕ) (ending : Ending) (text : List ℕ) → known ≡ bytes ++ left →
    (length bytes ≤ 2 ^ 30 → IsAtEnd (Some left)) → length bytes ≤ 2 ^ 30 → IsReply bytes ending text → IsReply known ending text
reply_of_short known left bytes ending text read whole short reply =
    subst (λ (input : List ℕ). IsReply input ending text) (at_end_all known bytes left read (whole short)) reply

pub reply_of_whole : (known left : Option (List ℕ)) (bytes : List ℕ) (ending : Ending) (text : List ℕ) →
    Consumes known left bytes → (length bytes ≤ 2 ^ 30 → IsAtEnd left) → IsReply bytes ending text →
    IfSome known (λ input. IsReply input ending text)
reply_of_whole None left bytes ending text read whole reply = tt
reply_of_whole (Some known) None bytes ending text read whole reply = absurd read
reply_of_whole (Some known) (Some left) bytes ending text read whole (refused cause (too_long long is) e t) =
    refused cause (too_long (omega (arith, ap length read, length-append bytes left)) is) e t
reply_of_whole (Some known) (Some left) bytes ending text read whole (refused cause (faulty k kind short fault is) e t) =
    reply_of_short known left bytes ending text read whole short (refused cause (faulty k kind short fault is) e t)
reply_of_whole (Some known) (Some left) bytes ending text read whole (refused cause (unfit at n short reads found) e t) =
    reply_of_short known left bytes ending text read whole short (refused cause (unfit at n short reads found) e t)
reply_of_whole (Some known) (Some left) bytes ending text read whole (searched setup xs h asks reply) =
    reply_of_short known left bytes ending text read whole asks.short (searched setup xs h asks reply)
