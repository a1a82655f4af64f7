use Rattle.std.specs.Prelude.{ℕ}
use Rattle.mw_base.specs.declared.options.Permission.{Permission}
use Rattle.mw_base.specs.declared.options.Permission.TheVariants.{Disabled, Enabled, Goal, Auto, AutoEnabled}

-- a permission's number in the protocol
abbrev pub permission_number : Permission → ℕ
permission_number Disabled = 0
permission_number Enabled = 1
permission_number Goal = 2
permission_number Auto = 6
permission_number AutoEnabled = 7
