-- The value of which a text has its kept reading.
use Rattle.std.proofs.Common.{◌≡◌, ℕ, List, [], ◌∷◌, Option, Some, None, option_map, option_and_then, refl, ap}
use Rattle.json.specs.Json as json
use Rattle.json.specs.Lex.{tokens}
use Rattle.json.specs.Token.{Token}
use Rattle.json.specs.Tree as tree
use Rattle.json.proofs.Numbered.{value-HasNumbers, ArePrintableOrBad-tokens}
use Rattle.mw_model.specs.Json.{Json}
use Rattle.mw_json.specs.KeptReading.{kept_value, kept_reading, value_in}

parsed : (o : Option (json.Json × List Token)) (j : json.Json) → option_and_then (λ p. json.if_last p.0 p.1) o ≡ Some j → o ≡ Some (j, [])
parsed None j e = absurd cc
parsed (Some (i, [])) j e = let is : i ≡ j = cc in ap (λ k. Some (k, [])) is
parsed (Some (i, t ∷ ts)) j e = absurd cc

pub record Came (text : List ℕ) (k : Json) : Type 0 where
  pub value : json.Json
  pub tokens_are : json.value 127 (tokens text) ≡ Some (value, [])
  pub is : kept_value value ≡ k

pub came : (text : List ℕ) (k : Json) → kept_reading text ≡ Some k → Came text k
came text k e = by_value (value_in text) refl e
  where
    by_value : (o : Option json.Json) → value_in text ≡ o → option_map kept_value o ≡ Some k → Came text k
    by_value None f g = absurd cc
    by_value (Some j) f g = record { value = j; tokens_are = parsed (json.value 127 (tokens text)) j f; is = cc }

pub numbers : (d : ℕ) (text : List ℕ) (j : json.Json) → json.value d (tokens text) ≡ Some (j, []) → tree.HasNumbers j
numbers d text j e = value-HasNumbers d (tokens text) [] j (ArePrintableOrBad-tokens text) e
