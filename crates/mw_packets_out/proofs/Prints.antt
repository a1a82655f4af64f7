-- The members of a print.
use Rattle.std.proofs.Common.{◌≡◌, ℕ, List, [], ◌∷◌, ◌++◌, codes, refl, ap, sym, ◌∙◌}
use Rattle.mw_model.specs.Json.{Json, words, many, members, member, no_members}
use Rattle.mw_model.specs.Trees.{items_of}
use Rattle.mw_protocol.specs.Messages.{PrintJson, then_kind, print_json}
use Rattle.mw_json.specs.View.{members_of}
use Rattle.mw_json.proofs.Built.{listed, listed_back}

last_kind : (ms : List (List ℕ × Json)) (kind : List ℕ) → members_of (ms ++ (codes "type", words kind) ∷ []) ≡ then_kind (members_of ms) kind
last_kind [] kind = refl
last_kind (m ∷ ms) kind = ap (member m.0 m.1) (last_kind ms kind)

-- its members, with those of its kind of print between the others
pub print_made : (ms front copied further : List (List ℕ × Json)) (content : List Json) (kind_json : Json) (kind : List ℕ) (p : PrintJson)
    → members_of front ≡ member (codes "cmd") (words (codes "PrintJSON")) (member (codes "data") (many (items_of content)) no_members)
    → ms ≡ (front ++ copied) ++ (codes "type", kind_json) ∷ [] → copied ≡ further → kind_json ≡ words kind
    → record { kind = kind; further = members_of further; content = content } ≡ p → members (members_of ms) ≡ print_json p
print_made ms front copied further content kind_json kind p begins put copies same_kind is =
    let front_is : front ≡ (codes "cmd", words (codes "PrintJSON")) ∷ (codes "data", many (items_of content)) ∷ [] =
    sym (listed_back front) ∙ ap listed begins in
    rw (put, front_is, copies, same_kind)
    (ap (λ m. members (member (codes "cmd") (words (codes "PrintJSON")) (member (codes "data") (many (items_of content)) m))) (last_kind further kind)
    ∙ ap print_json is)
