-- What is written for words that are no command.
use Rattle.std.specs.Prelude.{ℕ, List, codes}

-- the commands with their options, a line for each
abbrev pub usage_text : List ℕ
usage_text = codes "usage: kaos check [--budget N] [--form full|brief|lines]\n       kaos regress --goal NAME [--depth N] [--budget N]\n       kaos trace\n"
