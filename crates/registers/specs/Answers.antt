-- The commands and their bytes, and what stands beside a read's refusal. Definitions only.
use Rattle.std.specs.Prelude.{cond, ℕ, Ok, Err, Result}
use Rattle.picture.specs.declared.refusal.Refusal.{Refusal}
use Rattle.picture.specs.declared.refusal.Refusal.TheVariants.{Register}
use Rattle.registers.specs.declared.Command.{Command}
use Rattle.registers.specs.declared.Command.TheVariants.{Paint, Refresh}
use Rattle.registers.specs.Address as address
use Rattle.registers.specs.Registers.{is_paint, is_refresh}

-- the byte that asks for a command
abbrev pub number_of : Command → ℕ
number_of Paint = address.paint
number_of Refresh = address.refresh

-- the command that a byte asks for
abbrev pub command_of : ℕ → Result Command Refusal
command_of v = cond (is_paint v) (Ok Paint) (cond (is_refresh v) (Ok Refresh) (Err Register))

-- the byte that a read answers, 0 where it is refused
abbrev pub value_in : Result ℕ Refusal → ℕ
value_in (Ok v) = v
value_in (Err _) = 0
