use Rattle.std.proofs.Common.{◌≡◌, ◌++◌, ◌∷◌, [], ℕ, List, ap, map, refl, subst, ◌∙◌}
use Rattle.std.specs.Prelude.{codes}
use Rattle.mw_model.specs.Json.{Json, words}
use Rattle.mw_model.specs.Seed.{Seed, Group}
use Rattle.mw_json.specs.View.{member_view}
use Rattle.mw_multidata.specs.Written.{first_members, form_word, games_json, groups_member}
use Rattle.mw_multidata.proofs.Listed.{as_list}
use Rattle.mw_multidata.proofs.writing.first_members.Goals as goal

pub returns-clause-value : goal.returns-clause-value
returns-clause-value c =
    let gs = c.seed.inside.groups in
    let games = c.seed.inside.games in
    let front : List (List ℕ × Json) = (codes "format", words (form_word gs)) ∷ (codes "games", games_json games) ∷ [] in
    let form = ap words (c.form_of.ensures ∙ ap form_word c.as_slice.ensures) in
    let parts : map member_view c.in_ok-parts.parts ≡ front =
    as_list _ front (c.in_ok-parts.ensures.value _ (refl, form, (refl, rw c.as_slice-2.ensures at c.games_tree.ensures.value, tt))) in
    subst (λ (s : Seed). map member_view c.put_groups.new.members ≡ first_members s) c.seed.view_is
    (c.in_ok-put_groups.ensures.value ∙ ap (λ xs. xs ++ groups_member c.as_slice-3.result.now) parts ∙ ap (λ (hs : List Group). front ++ groups_member hs) c.as_slice-3.ensures)
