-- A file's bytes stand for one value under a grammar, or have one refusal.
use Rattle.std.proofs.Common.{◌≡◌, List, ℕ, Some, None, Result, Ok, inl, inr, sym, ap, subst, ◌∙◌, arith}
use Rattle.mw_json.specs.Files.{FileOf}
use Rattle.mw_json.specs.Grammar.{Breach}
use Rattle.mw_json.specs.Reading.{IsReading, reading}
use Rattle.mw_model.specs.Json.{Json, depth}

one_reading : (bytes : List ℕ) (i j : Json) → IsReading bytes i → IsReading bytes j → i ≡ j
one_reading bytes i j p q = let same : Some i ≡ Some j = sym p.is ∙ q.is in cc

no_reading : (bytes : List ℕ) (j : Json) → reading bytes ≡ None → IsReading bytes j → ⊥
no_reading bytes j none p = let same : None ≡ Some j = sym none ∙ p.is in cc

pub one_meaning : {A : Type 0} (grammar : Json → Result A Breach) (bytes : List ℕ) (a b : Result A Breach) → FileOf grammar bytes a → FileOf grammar bytes b → a ≡ b
one_meaning grammar bytes a b (inl p) (inl q) = p.1 ∙ sym q.1
one_meaning grammar bytes a b (inl p) (inr (inl q)) = absurd (no_reading bytes q.0 (p.0 q.1.read.utf8) q.1.read)
one_meaning grammar bytes a b (inl p) (inr (inr q)) = absurd (no_reading bytes q.0 (p.0 q.1.read.utf8) q.1.read)
one_meaning grammar bytes a b (inr (inl p)) (inl q) = absurd (no_reading bytes p.0 (q.0 p.1.read.utf8) p.1.read)
one_meaning grammar bytes a b (inr (inl p)) (inr (inl q)) = p.2 ∙ sym q.2
one_meaning grammar bytes a b (inr (inl p)) (inr (inr q)) = let same = ap depth (one_reading bytes p.0 q.0 p.1.read q.1.read) in absurd (omega (arith, same, p.1.deep, q.1.deep))
one_meaning grammar bytes a b (inr (inr p)) (inl q) = absurd (no_reading bytes p.0 (q.0 p.1.read.utf8) p.1.read)
one_meaning grammar bytes a b (inr (inr p)) (inr (inl q)) = let same = ap depth (one_reading bytes p.0 q.0 p.1.read q.1.read) in absurd (omega (arith, same, p.1.deep, q.1.deep))
one_meaning grammar bytes a b (inr (inr p)) (inr (inr q)) = sym p.2 ∙ ap grammar (one_reading bytes p.0 q.0 p.1.read q.1.read) ∙ q.2

pub one_value : {A : Type 0} (grammar : Json → Result A Breach) (bytes others : List ℕ) (a b : A) → bytes ≡ others → FileOf grammar bytes (Ok a) → FileOf grammar others (Ok b) → a ≡ b
one_value grammar bytes others a b same p q =
    let is : Ok a ≡ Ok b = one_meaning grammar bytes (Ok a) (Ok b) p (subst (λ bs. FileOf grammar bs (Ok b)) (sym same) q) in
    cc
