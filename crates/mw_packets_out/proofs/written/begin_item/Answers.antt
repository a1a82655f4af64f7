use Rattle.std.proofs.Common.{rules, ◌≡◌, ◌++◌, ◌∷◌, [], codes, decimal}
use Rattle.json.specs.Token.{begin_object, key}
use Rattle.json.specs.Token.{number as number_token}
use Rattle.json.specs.Token.{string as string_token}
use Rattle.mw_packets_out.proofs.Tokens.{then_more}
use Rattle.mw_packets_out.proofs.written.begin_item.Goals as goal

pub returns-clause-ok : goal.returns-clause-ok
returns-clause-ok c =
    let front = begin_object ∷ key (codes "class") ∷ string_token (codes "NetworkItem") ∷ [] in
    let rest = key (codes "flags") ∷ number_token (decimal c.args.item.now.flags) ∷ [] in
    let first : c.begin_words.new.out.tokens ≡ c.args.out.now.tokens ++ front = c.in_ok-begin_words.ensures.ok in
    let second : c.put_number.new.out.tokens ≡ c.begin_words.new.out.tokens ++ rest = search rules in
    then_more c.args.out.now.tokens front rest c.begin_words.new.out.tokens c.put_number.new.out.tokens first second
