-- Lists of members beside the plain members that they stand for.
use Rattle.std.proofs.Common.{false, bytes_eq, set, nat_cmp, Greater, ◌≡◌, List, [], ◌∷◌, ◌++◌, ℕ, suc, zero, ◌<◌, ◌≤◌, ◌+◌, length, take, drop, get_or, refl, ap, sym, ◌∙◌, add-one, arith, drop-cons}
use Rattle.std.specs.Prelude.{insert}
use Rattle.std.specs.Cmp.Lexicographic.{slice_cmp}
use Rattle.std.proofs.lemmas.List.{take_more, take_all}
use Rattle.mw_json.specs.declared.tree.Tree.{Tree}
use Rattle.mw_protocol.specs.Operations.{without_member, set_member}
use Rattle.mw_model.specs.Json.{Json, Members, no_members, member}
use Rattle.mw_json.specs.View.{member_view, view, members_view, tree_step, member_step}
use Rattle.mw_json.specs.declared.tree.Member.{Member, fold_out-Member, fold-roll-Member, roll-Member}
use Rattle.mw_storage.specs.Places.{in_front, with_first_value}

pub in_front-append : (ms ns : List Member) → members_view (ms ++ ns) ≡ in_front ms (members_view ns)
in_front-append [] ns = refl
in_front-append (m ∷ ms) ns = ap (member (member_view m).0 (member_view m).1) (in_front-append ms ns)

pub in_front-one : (ms : List Member) (m : Member) (ns : Members) → in_front (ms ++ m ∷ []) ns ≡ in_front ms (member (member_view m).0 (member_view m).1 ns)
in_front-one [] m ns = refl
in_front-one (n ∷ ms) m ns = ap (member (member_view n).0 (member_view n).1) (in_front-one ms m ns)

pub in_front-none : (ms : List Member) → in_front ms no_members ≡ members_view ms
in_front-none [] = refl
in_front-none (m ∷ ms) = ap (member (member_view m).0 (member_view m).1) (in_front-none ms)

pub view_of : (m : Member) → member_view m ≡ (m.name, view m.value)
view_of m = fold_out-Member Json (List ℕ × Json) tree_step member_step m

pub view_made : (name : List ℕ) (value : Tree) → member_view (roll-Member record { name = name; value = value }) ≡ (name, view value)
view_made name value = fold-roll-Member Json (List ℕ × Json) tree_step member_step record { name = name; value = value }

-- ---- the member at an index

pub behind : (ms : List Member) (i : ℕ) (m : Member) → i < length ms → m ≡ get_or ms i m → drop i ms ≡ m ∷ drop (i + 1) ms
behind ms i m h e = drop-cons ms i m h ∙ rw add-one (ap (λ n. n ∷ drop (suc i) ms) (sym e))

pub in_front-next : (ms : List Member) (i : ℕ) (m : Member) (ns : Members) → i < length ms → m ≡ get_or ms i m
    → in_front (take (i + 1) ms) ns ≡ in_front (take i ms) (member (member_view m).0 (member_view m).1 ns)
in_front-next ms i m ns h e =
    ap (λ ks. in_front ks ns) (take_more ms i m h ∙ ap (λ n. take i ms ++ n ∷ []) (sym e)) ∙ in_front-one (take i ms) m ns

-- with nothing left, they are all
pub in_front-all : (ms : List Member) (i : ℕ) → length ms ≤ i → in_front (take i ms) no_members ≡ members_view ms
in_front-all ms i h = in_front-none (take i ms) ∙ ap members_view (take_all i ms h)

-- ---- one step of a search by name

pub not_yet : (name : List ℕ) (ms : List Member) (i : ℕ) (m : Member) → i < length ms → m ≡ get_or ms i m → bytes_eq m.name name ≡ false
    → in_front (take i ms) (without_member name (members_view (drop i ms))) ≡ in_front (take (i + 1) ms) (without_member name (members_view (drop (i + 1) ms)))
not_yet name ms i m h e other =
    ap (λ ns. in_front (take i ms) (without_member name (members_view ns))) (behind ms i m h e)
    ∙ ap (in_front (take i ms)) (skipped m other (members_view (drop (i + 1) ms)))
    ∙ sym (in_front-next ms i m (without_member name (members_view (drop (i + 1) ms))) h e)
  where
    skipped : (m : Member) → bytes_eq m.name name ≡ false → (ns : Members)
        → without_member name (member (member_view m).0 (member_view m).1 ns) ≡ member (member_view m).0 (member_view m).1 (without_member name ns)
    skipped m other ns = rw (ap (λ p. bytes_eq p.0 name) (view_of m) ∙ other) refl

pub not_before : (name : List ℕ) (j : Json) (ms : List Member) (i : ℕ) (m : Member) → i < length ms → m ≡ get_or ms i m → slice_cmp nat_cmp name m.name ≡ Greater
    → in_front (take i ms) (set_member name j (members_view (drop i ms))) ≡ in_front (take (i + 1) ms) (set_member name j (members_view (drop (i + 1) ms)))
not_before name j ms i m h e greater =
    ap (λ ns. in_front (take i ms) (set_member name j (members_view ns))) (behind ms i m h e)
    ∙ ap (in_front (take i ms)) (passed m greater (members_view (drop (i + 1) ms)))
    ∙ sym (in_front-next ms i m (set_member name j (members_view (drop (i + 1) ms))) h e)
  where
    passed : (m : Member) → slice_cmp nat_cmp name m.name ≡ Greater → (ns : Members)
        → set_member name j (member (member_view m).0 (member_view m).1 ns) ≡ member (member_view m).0 (member_view m).1 (set_member name j ns)
    passed m greater ns = rw (ap (λ p. slice_cmp nat_cmp name p.0) (view_of m) ∙ greater, set_member) refl

-- ---- a member with another value

pub set_there : (ms : List Member) (i : ℕ) (m : Member) (value : Tree) → i < length ms → m ≡ get_or ms i m
    → members_view (set ms i (roll-Member record { name = m.name; value = value })) ≡ in_front (take i ms) (with_first_value (view value) (members_view (drop i ms)))
set_there [] i m value h e = absurd (omega arith)
set_there (n ∷ ms) zero m value h e =
    ap (λ p. member p.0 p.1 (members_view ms)) (view_made m.name value)
    ∙ ap (λ k. member k (view value) (members_view ms)) (sym (ap (λ p. p.0) (view_of m)) ∙ ap (λ x. (member_view x).0) e)
set_there (n ∷ ms) (suc i) m value h e = ap (member (member_view n).0 (member_view n).1) (set_there ms i m value (omega arith) e)

pub inserted : (ms : List Member) (i : ℕ) (name : List ℕ) (value : Tree)
    → members_view (insert ms i (roll-Member record { name = name; value = value })) ≡ in_front (take i ms) (member name (view value) (members_view (drop i ms)))
inserted ms i name value =
    in_front-append (take i ms) (roll-Member record { name = name; value = value } ∷ drop i ms)
    ∙ ap (λ p. in_front (take i ms) (member p.0 p.1 (members_view (drop i ms)))) (view_made name value)
