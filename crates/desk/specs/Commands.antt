-- The command that a word asks for.
use Rattle.std.specs.Prelude.{ℕ, Bool, true, false, ◌&&◌, cond, List, [], ◌∷◌, eqb, Option, Some, None}
use Rattle.rules.specs.SheetLine.{ascii}
use Rattle.desk.specs.declared.commands.Command.{Command}
use Rattle.desk.specs.declared.commands.Command.TheVariants.{Rewrite}

unfoldable pub same : List ℕ → List ℕ → Bool
same [] [] = true
same [] (byte ∷ rest) = false
same (byte ∷ rest) [] = false
same (one ∷ ones) (other ∷ others) = eqb one other && same ones others

unfoldable pub command_of : List ℕ → Option Command
command_of word = cond (same word (ascii "rewrite")) (Some Rewrite) None
