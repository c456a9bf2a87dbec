-- What a play prints for lines that are no commands. Definitions only.
use Rattle.std.specs.Prelude.{◌≡◌, ◌≢◌, ℕ, Bool, true, false, nat_eq, List, [], ◌∷◌, ◌++◌, codes, decimal}
use Rattle.script.specs.declared.Command.{Command}
use Rattle.script.specs.Commands.{CanCommand, command_text}

-- empty lines and those that begin with # are passed over
abbrev pub passed_over : List ℕ → Bool
passed_over [] = true
passed_over (b ∷ bs) = nat_eq b 35

-- others are to be commands, and these are none
pub record Unread (line : List ℕ) : Type 0 where
  pub counts : passed_over line ≡ false
  pub none : (c : Command) → CanCommand c → line ≢ command_text c

-- what is printed for such a line, by its number
abbrev pub unread_text : ℕ → List ℕ
unread_text n = codes "line " ++ (decimal n ++ (codes " -> refused 1 " ++ (decimal n ++ codes "\n")))
