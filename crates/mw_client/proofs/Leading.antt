-- Bodies lead from one list to another, one after another.
use Rattle.std.proofs.Common.{◌≡◌, ◌++◌, ℕ, List, [], ◌∷◌, length, drop, refl, sym, ap, ◌∙◌, arith}
use Rattle.std.specs.Prelude.{◌≢◌}
use Rattle.std.specs.List.{flat_map, AllByRecursion}
use Rattle.mw_model.specs.Items.{NetItem}
use Rattle.mw_client.specs.Bodies.{Begins, Body, IsBody, Leads, after_body, body_bytes, saved}
use Rattle.mw_client.specs.Entering.{Enters}
use Rattle.mw_client.proofs.Spelling.{body_same}

-- no bytes lead nowhere
pub none_left : (list : List NetItem) → Leads list [] list
none_left list = record { bodies = []; layout = refl; are = tt; list = refl }

-- the first body, and those behind it
pub entered_then : (text : List ℕ) (size : ℕ) (before middle after : List NetItem) → Enters text size before middle → Leads middle (drop size text) after → Leads before text after
entered_then text size before middle after first l = record {
  bodies = first.body ∷ l.bodies;
  layout = first.layout ∙ ap (λ (r : List ℕ). body_bytes first.body ++ r) l.layout;
  are = (first.is, l.are);
  list = l.list ∙ ap (λ (m : List NetItem). saved m l.bodies) first.list;
}

behind : (text : List ℕ) (size : ℕ) (before middle after : List NetItem) → Enters text size before middle → (bodies : List Body) → text ≡ flat_map body_bytes bodies → AllByRecursion IsBody bodies → after ≡ saved before bodies
    → Leads middle (drop size text) after
behind text size before middle after first [] layout are list =
    let nothing : [] ≡ body_bytes first.body ++ drop size text = sym layout ∙ first.layout in
    absurd (omega (arith, ap length nothing))
behind text size before middle after first (b ∷ bs) layout are list =
    let same = body_same first.body b (drop size text) (flat_map body_bytes bs) first.is are.0 (sym first.layout ∙ layout) in record {
      bodies = bs;
      layout = same.1;
      are = are.1;
      list = list ∙ ap (λ (l : List NetItem). saved l bs) (ap (λ (c : Body). after_body before c) (sym same.0) ∙ sym first.list);
    }

-- those behind the first body, which is the only one that begins the bytes
pub then_behind : (text : List ℕ) (size : ℕ) (before middle after : List NetItem) → Enters text size before middle → Leads before text after → Leads middle (drop size text) after
then_behind text size before middle after first l = behind text size before middle after first l.bodies l.layout l.are l.list

nowhere : (text : List ℕ) → text ≢ [] → ((b : Body) → Begins text b → ⊥) → (bodies : List Body) → text ≡ flat_map body_bytes bodies → AllByRecursion IsBody bodies → ⊥
nowhere text some bad [] layout are = some layout
nowhere text some bad (b ∷ bs) layout are = bad b record { is = are.0; rest = flat_map body_bytes bs; layout = layout }

-- bytes that no body begins lead nowhere
pub leads_nowhere : (text : List ℕ) (before after : List NetItem) → text ≢ [] → ((b : Body) → Begins text b → ⊥) → Leads before text after → ⊥
leads_nowhere text before after some bad l = nowhere text some bad l.bodies l.layout l.are
