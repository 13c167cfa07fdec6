-- Trees as ghost values, one to one: what a type that is seen as a tree needs.
use Rattle.std.specs.Prelude.{◌≡◌, ℕ, List, Option, refl}
use Rattle.std.proofs.Common.{ap, arith}
use base.Stored.{Gv, gnil, gnum, gcons, num}
use Rattle.std.specs.Coded.{Coded, coded_ℕ, coded_bool, coded_list, coded_option, coded×}
use Rattle.hir_core.specs.LookCode.{look_code}
use Rattle.hir_core.specs.Tree.{Tree, empty, literal, byte_class, char_class, look, repetition, capture, nothing, cat, never, alt}

-- the codes of a literal's bytes, of a class's ranges and of a repetition's upper bound
abbrev pub bytes_code : Coded (List ℕ)
bytes_code = coded_list coded_ℕ

abbrev pub ranges_code : Coded (List (ℕ × ℕ))
ranges_code = coded_list (coded× coded_ℕ coded_ℕ)

abbrev pub bound_code : Coded (Option ℕ)
bound_code = coded_option coded_ℕ

-- the code of a group's name
abbrev pub name_code : Coded (Option (List ℕ))
name_code = coded_option bytes_code

-- a tree as a ghost value: a number for its kind, and its parts
abbrev pub tree_gv : Tree → Gv
tree_gv empty = gcons (gnum 0) gnil
tree_gv (literal bytes) = gcons (gnum 1) (bytes_code.code bytes)
tree_gv (byte_class ranges) = gcons (gnum 2) (ranges_code.code ranges)
tree_gv (repetition min most greedy x) =
    gcons (gnum 3) (gcons (gnum min) (gcons (bound_code.code most) (gcons (coded_bool.code greedy) (tree_gv x))))
tree_gv nothing = gcons (gnum 4) gnil
tree_gv (cat x y) = gcons (gnum 5) (gcons (tree_gv x) (tree_gv y))
tree_gv never = gcons (gnum 6) gnil
tree_gv (alt x y) = gcons (gnum 7) (gcons (tree_gv x) (tree_gv y))
tree_gv (char_class ranges) = gcons (gnum 8) (ranges_code.code ranges)
tree_gv (look l) = gcons (gnum 9) (look_code.code l)
tree_gv (capture index name x) = gcons (gnum 10) (gcons (gnum index) (gcons (name_code.code name) (tree_gv x)))

-- the number in front, 0 where there is none
abbrev pub code_tag : Gv → ℕ
code_tag gnil = 0
code_tag (gnum n) = 0
code_tag (gcons a b) = num a

-- two trees with one ghost value are one tree
pub tree_one : (x y : Tree) → tree_gv x ≡ tree_gv y → x ≡ y
tree_one empty empty e = refl
tree_one (literal a) (literal b) e = ap literal (bytes_code.inj a b cc)
tree_one (byte_class a) (byte_class b) e = ap byte_class (ranges_code.inj a b cc)
tree_one (repetition a m g x) (repetition b n h y) e =
    let least : a ≡ b = cc in
    let most = bound_code.inj m n cc in
    let order = coded_bool.inj g h cc in
    let body = tree_one x y cc in
    cc
tree_one (char_class a) (char_class b) e = ap char_class (ranges_code.inj a b cc)
tree_one (look k) (look l) e = ap look (look_code.inj k l cc)
tree_one (capture a m x) (capture b n y) e =
    let index : a ≡ b = cc in
    let name = name_code.inj m n cc in
    let body = tree_one x y cc in
    cc
tree_one nothing nothing e = refl
tree_one (cat a x) (cat b y) e =
    let first = tree_one a b cc in
    let others = tree_one x y cc in
    cc
tree_one never never e = refl
tree_one (alt a x) (alt b y) e =
    let first = tree_one a b cc in
    let others = tree_one x y cc in
    cc
tree_one _ _ e = absurd (omega (arith, ap code_tag e))

-- the code of trees, from both
abbrev pub tree_code : Coded Tree
tree_code = record { code = tree_gv; inj = tree_one }
