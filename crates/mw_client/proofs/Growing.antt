-- One body more.
use Rattle.std.proofs.Common.{◌≡◌, ◌++◌, ℕ, List, [], ◌∷◌, refl, sym, ap, ◌∙◌, append-nil}
use Rattle.std.specs.List.{flat_map, AllByRecursion}
use Rattle.std.proofs.lemmas.List.Concat.{flat_map-append}
use Rattle.mw_model.specs.Items.{NetItem}
use Rattle.mw_client.specs.Bodies.{Body, IsBody, Leads, after_body, body_bytes, saved}

pub both_are : (bs cs : List Body) → AllByRecursion IsBody bs → AllByRecursion IsBody cs → AllByRecursion IsBody (bs ++ cs)
both_are [] cs left right = right
both_are (b ∷ bs) cs left right = (left.0, both_are bs cs left.1 right)

saved_more : (list : List NetItem) (bs : List Body) (b : Body) → saved list (bs ++ b ∷ []) ≡ after_body (saved list bs) b
saved_more list [] b = refl
saved_more list (c ∷ bs) b = saved_more (after_body list c) bs b

-- a body behind others leads on from where they lead
pub leads_on : (before middle : List NetItem) (bytes : List ℕ) (b : Body) → Leads before bytes middle → IsBody b → Leads before (bytes ++ body_bytes b) (after_body middle b)
leads_on before middle bytes b l is = record {
  bodies = l.bodies ++ b ∷ [];
  layout = ap (λ (x : List ℕ). x ++ body_bytes b) l.layout
      ∙ ap (λ (x : List ℕ). flat_map body_bytes l.bodies ++ x) (sym (append-nil (body_bytes b)))
      ∙ sym (flat_map-append body_bytes l.bodies (b ∷ []));
  are = both_are l.bodies (b ∷ []) l.are (is, tt);
  list = ap (λ (m : List NetItem). after_body m b) l.list ∙ sym (saved_more before l.bodies b);
}
