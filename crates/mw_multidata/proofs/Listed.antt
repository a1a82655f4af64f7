-- The members of an object as a list.
use Rattle.std.proofs.Common.{◌≡◌, ◌++◌, ℕ, List, Result, IfOk, map, ap, sym, ◌∙◌}
use Rattle.std.proofs.lemmas.Result.{IfOk-weaker}
use Rattle.mw_model.specs.Json.{Json}
use Rattle.mw_json.specs.View.{member_view, members_view, members_of}
use Rattle.mw_json.specs.declared.tree.Member.{Member}
use Rattle.mw_json.proofs.Built.{listed, listed_back}

-- as a list they are the same where they are the same as an object's
pub as_list : (xs ys : List (List ℕ × Json)) → members_of xs ≡ members_of ys → xs ≡ ys
as_list xs ys e = sym (listed_back xs) ∙ ap listed e ∙ listed_back ys

pub made_as_list : {E : Type 0} (made : Result (List Member) E) (xs : List (List ℕ × Json)) → IfOk made (λ ms. members_view ms ≡ members_of xs) → IfOk made (λ ms. map member_view ms ≡ xs)
made_as_list made xs h = IfOk-weaker made (λ ms. members_view ms ≡ members_of xs) (λ ms. map member_view ms ≡ xs) (λ ms e. as_list (map member_view ms) xs e) h
