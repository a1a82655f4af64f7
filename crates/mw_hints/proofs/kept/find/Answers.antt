use Rattle.std.proofs.Common.{◌≡◌, Option, Some, None, option_map, refl, ap, ◌∙◌}
use Rattle.std.specs.Option.{option_copied}
use denote.Ref.{Bor}
use Rattle.mw_hints.specs.Book.{hint_of}
use Rattle.mw_hints.specs.declared.kept.Kept.{Kept}
use Rattle.mw_hints.proofs.Keys.{hint_found}
use Rattle.mw_hints.proofs.kept.find.Goals as goal

copied : (o : Option (Bor Kept)) → option_map (λ x. x.now) o ≡ option_copied o
copied None = refl
copied (Some x) = refl

pub returns : goal.returns
returns c =
    ap (option_map (λ k. hint_of (c.args.key.now, k))) (c.copied.ensures ∙ copied c.get.result ∙ c.get.ensures.value) ∙ hint_found c.args.key.now c.args.hints.now.entries
