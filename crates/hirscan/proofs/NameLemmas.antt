-- A word that is one of several names: the first words of lines, and the names of looks.
use Rattle.std.proofs.Common.{◌≡◌, ◌⊎◌, ℕ, true, false, List, Option, Some, None, if◌then◌else◌, refl, ◌∙◌, ap, inl, inr}
use Rattle.std.specs.Option.{option_or}
use Rattle.std.specs.Str.{bytes_eq}
use Rattle.std.proofs.lemmas.Bool.{cases_Bool}
use Rattle.std.proofs.lemmas.Slice.Eq.{bytes_eq-Decides}
use Rattle.look_core.specs.declared.look.Look.{Look as TheLook}
use Rattle.look_core.specs.declared.look.Look.TheVariants as the_look
use Rattle.hirscan.specs.declared.fault.FaultKind.TheVariants.{UnknownLook}
use Rattle.hirscan.specs.declared.words.LineWord.{LineWord}
use Rattle.hirscan.specs.declared.words.LineWord.TheVariants.{Utf8, Line, Capacity, Quit, Classes, Shrink, Anchored, Span, Empty, Lit}
use Rattle.hirscan.specs.declared.words.LineWord.TheVariants.{Bytes, Chars, Look, Rep, Cat, Alt, Pattern, Find}
use Rattle.hirscan.specs.Words.{look_name, IsLookName}
use Rattle.hirscan.specs.Readers.{spelling, setting_word, tree_word, line_word, anchor_named, word_look_named, word_side_named}
use Rattle.hirscan.specs.Readers.{half_look_named, look_named, the_look_named}
use Rattle.hirscan.specs.LineFault.{unless_read}

-- a word is the name, or it isn't
pub text_cases : (w t : List ℕ) → ((bytes_eq w t ≡ true) × (w ≡ t)) ⊎ (bytes_eq w t ≡ false)
text_cases w t =
    elim (cases_Bool (bytes_eq w t)) [ inl e ↦ inl (e, (bytes_eq-Decides w t).0 e) | inr e ↦ inr e ]

-- if names are tested one after the other, the word is the name of what was found, if the later tests say so too
named : {X : Type 0} (name : X → List ℕ) (w : List ℕ) (k : X) (rest : Option X) (x : X) → (rest ≡ Some x → w ≡ name x)
    → (if bytes_eq w (name k) then Some k else rest) ≡ Some x → w ≡ name x
named name w k rest x more e =
    elim (text_cases w (name k)) [
      | inl t ↦ let f : Some k ≡ Some x = rw t.0 at e in let g : k ≡ x = cc in t.1 ∙ ap name g
      | inr n ↦ more (rw n at e)
    ]

not_named : {X : Type 0} (name : X → List ℕ) (w : List ℕ) (x : X) → None ≡ Some x → w ≡ name x
not_named name w x e = absurd cc

either : {X : Type 0} (a b : Option X) (x : X) → option_or a b ≡ Some x → (a ≡ Some x) ⊎ (b ≡ Some x)
either None b x e = inr e
either (Some y) b x e = inl e

setting_word_spelled : (w : List ℕ) (k : LineWord) → setting_word w ≡ Some k → w ≡ spelling k
setting_word_spelled w k =
    named spelling w Utf8 _ k
    (named spelling w Line _ k
    (named spelling w Capacity _ k
    (named spelling w Quit _ k
    (named spelling w Classes _ k
    (named spelling w Shrink _ k
    (named spelling w Anchored _ k
    (named spelling w Span _ k (not_named spelling w k))))))))

tree_word_spelled : (w : List ℕ) (k : LineWord) → tree_word w ≡ Some k → w ≡ spelling k
tree_word_spelled w k =
    named spelling w Empty _ k
    (named spelling w Lit _ k
    (named spelling w Bytes _ k
    (named spelling w Chars _ k
    (named spelling w Look _ k
    (named spelling w Rep _ k
    (named spelling w Cat _ k
    (named spelling w Alt _ k
    (named spelling w Pattern _ k
    (named spelling w Find _ k (not_named spelling w k))))))))))

-- the first word of a line is how that line is spelled
pub line_word_spelled : (w : List ℕ) (k : LineWord) → line_word w ≡ Some k → w ≡ spelling k
line_word_spelled w k e =
    elim (either (setting_word w) (tree_word w) k e) [ inl f ↦ setting_word_spelled w k f | inr f ↦ tree_word_spelled w k f ]

pub line_word-spelling : (k : LineWord) → line_word (spelling k) ≡ Some k
line_word-spelling Utf8 = refl
line_word-spelling Line = refl
line_word-spelling Capacity = refl
line_word-spelling Quit = refl
line_word-spelling Classes = refl
line_word-spelling Shrink = refl
line_word-spelling Anchored = refl
line_word-spelling Span = refl
line_word-spelling Empty = refl
line_word-spelling Lit = refl
line_word-spelling Bytes = refl
line_word-spelling Chars = refl
line_word-spelling Look = refl
line_word-spelling Rep = refl
line_word-spelling Cat = refl
line_word-spelling Alt = refl
line_word-spelling Pattern = refl
line_word-spelling Find = refl

anchor_spelled : (w : List ℕ) (l : TheLook) → anchor_named w ≡ Some l → w ≡ look_name l
anchor_spelled w l =
    named look_name w the_look.Start _ l
    (named look_name w the_look.End _ l
    (named look_name w the_look.StartLF _ l
    (named look_name w the_look.EndLF _ l
    (named look_name w the_look.StartCRLF _ l
    (named look_name w the_look.EndCRLF _ l (not_named look_name w l))))))

word_look_spelled : (w : List ℕ) (l : TheLook) → word_look_named w ≡ Some l → w ≡ look_name l
word_look_spelled w l =
    named look_name w the_look.WordAscii _ l
    (named look_name w the_look.WordAsciiNegate _ l
    (named look_name w the_look.WordUnicode _ l
    (named look_name w the_look.WordUnicodeNegate _ l (not_named look_name w l))))

word_side_spelled : (w : List ℕ) (l : TheLook) → word_side_named w ≡ Some l → w ≡ look_name l
word_side_spelled w l =
    named look_name w the_look.WordStartAscii _ l
    (named look_name w the_look.WordEndAscii _ l
    (named look_name w the_look.WordStartUnicode _ l
    (named look_name w the_look.WordEndUnicode _ l (not_named look_name w l))))

half_look_spelled : (w : List ℕ) (l : TheLook) → half_look_named w ≡ Some l → w ≡ look_name l
half_look_spelled w l =
    named look_name w the_look.WordStartHalfAscii _ l
    (named look_name w the_look.WordEndHalfAscii _ l
    (named look_name w the_look.WordStartHalfUnicode _ l
    (named look_name w the_look.WordEndHalfUnicode _ l (not_named look_name w l))))

-- a look that is read is named so
pub look_spelled : (w : List ℕ) (l : TheLook) → look_named w ≡ Some l → IsLookName w l
look_spelled w l e =
    elim (either (option_or (option_or (anchor_named w) (word_look_named w)) (word_side_named w)) (half_look_named w) l e) [
      | inl f ↦ elim (either (option_or (anchor_named w) (word_look_named w)) (word_side_named w) l f) [
        | inl g ↦ elim (either (anchor_named w) (word_look_named w) l g) [ inl i ↦ anchor_spelled w l i | inr i ↦ word_look_spelled w l i ]
        | inr g ↦ word_side_spelled w l g
      ]
      | inr f ↦ half_look_spelled w l f
    ]

look_named-name : (l : TheLook) → look_named (look_name l) ≡ Some l
look_named-name the_look.Start = refl
look_named-name the_look.End = refl
look_named-name the_look.StartLF = refl
look_named-name the_look.EndLF = refl
look_named-name the_look.StartCRLF = refl
look_named-name the_look.EndCRLF = refl
look_named-name the_look.WordAscii = refl
look_named-name the_look.WordAsciiNegate = refl
look_named-name the_look.WordUnicode = refl
look_named-name the_look.WordUnicodeNegate = refl
look_named-name the_look.WordStartAscii = refl
look_named-name the_look.WordEndAscii = refl
look_named-name the_look.WordStartUnicode = refl
look_named-name the_look.WordEndUnicode = refl
look_named-name the_look.WordStartHalfAscii = refl
look_named-name the_look.WordEndHalfAscii = refl
look_named-name the_look.WordStartHalfUnicode = refl
look_named-name the_look.WordEndHalfUnicode = refl

pub look_said : (w : List ℕ) (l : TheLook) → IsLookName w l → look_named w ≡ Some l
look_said w l e = ap look_named e ∙ look_named-name l

look_of : (w : List ℕ) (o : Option TheLook) → look_named w ≡ o → unless_read o UnknownLook ≡ None
    → (l : TheLook) × (o ≡ Some l) × IsLookName w l
look_of w None e f = absurd cc
look_of w (Some l) e f = (l, refl, look_spelled w l e)

pub look_says : (w : List ℕ) → unless_read (look_named w) UnknownLook ≡ None → IsLookName w (the_look_named w)
look_says w e = let l = look_of w (look_named w) refl e in rw l.1 l.2
