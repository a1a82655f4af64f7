use Rattle.std.proofs.Common.{arith}
use Rattle.mw_json.proofs.Trees.{same_items_count, same_members_count}
use Rattle.mw_json.proofs.comparing.+same.Goals as goal

pub same_items-returns-then-left-right : goal.same_items-returns-then-left-right
same_items-returns-then-left-right t c = (λ h. cc, λ e. absurd (omega (arith, same_items_count c.args.left.now c.args.right.now e)))

pub same_members-returns-then-left-right : goal.same_members-returns-then-left-right
same_members-returns-then-left-right t c = (λ h. cc, λ e. absurd (omega (arith, same_members_count c.args.left.now c.args.right.now e)))
