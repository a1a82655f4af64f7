-- Members one after another.
use Rattle.std.proofs.Common.{◌≡◌, ◌≤◌, ℕ, List, [], ◌∷◌, ◌++◌, false, length, map, drop, refl, ap}
use Rattle.std.proofs.lemmas.List.{drop_all}
use Rattle.mw_model.specs.Json.{Json, Members, no_members, member}
use Rattle.mw_model.specs.Texts.{has_text}
use Rattle.mw_json.specs.View.{members_of, member_view, members_view}
use Rattle.mw_json.specs.declared.tree.Member.{Member}
use Rattle.mw_protocol.specs.Further.{others}

-- these before those
abbrev pub ahead : List (List ℕ × Json) → Members → Members
ahead [] ms = ms
ahead (x ∷ xs) ms = member x.0 x.1 (ahead xs ms)

ahead_all : (xs : List (List ℕ × Json)) → ahead xs no_members ≡ members_of xs
ahead_all [] = refl
ahead_all (x ∷ xs) = ap (member x.0 x.1) (ahead_all xs)

-- past the last one
pub none_left : (names : List (List ℕ)) (xs : List (List ℕ × Json)) (ms : List Member) (i : ℕ) → length ms ≤ i → ahead xs (others names (members_view (drop i ms))) ≡ members_of xs
none_left names xs ms i h = rw (drop_all i ms h) (ahead_all xs)

-- a copy of one that isn't left out
pub one_more : (names : List (List ℕ)) (xs : List Member) (x m : Member) (rest : List Member) → member_view x ≡ member_view m → has_text names (member_view m).0 ≡ false
    → ahead (map member_view (xs ++ x ∷ [])) (others names (members_view rest)) ≡ ahead (map member_view xs) (others names (members_view (m ∷ rest)))
one_more names [] x m rest same own = rw (own, same) refl
one_more names (y ∷ ys) x m rest same own = ap (member (member_view y).0 (member_view y).1) (one_more names ys x m rest same own)
