-- The blocks of the lines that call no driver.
use Rattle.std.specs.Prelude.{◌≡◌, ◌++◌, ◌+◌, ◌≤◌, codes, take, length, List, ℕ, Option, ⊤}
use Rattle.std.specs.Fmt.{decimal}
use Rattle.std.specs.Io.KnownBytes.{Appends}
use Rattle.script.specs.declared.command.Call.{Call}
use Rattle.script.specs.declared.command.Call.TheVariants.{Skipped, Wrong, Fresh, Rule, Lend, Memory, Buffer}
use Rattle.script.specs.declared.text.Text.{Text}

-- The text that waits to be written out.
abbrev pub kept : {N : ℕ} → Text N → List ℕ
kept out = take out.used out.room

-- The text stands after what was kept before, if there is room for it; what was kept before stays.
pub record Puts {N : ℕ} (old : Text N) (text : List ℕ) (new : Text N) : Type 0 where
  pub room : length new.room ≡ length old.room
  pub stays : take old.used new.room ≡ kept old
  pub on : old.used ≤ new.used
  pub kept : old.used + length text ≤ length old.room → kept new ≡ kept old ++ text
  pub used : old.used + length text ≤ length old.room → new.used ≡ old.used + length text

-- What was written before stays, with what came of the call after it.
pub record Grows (old new : Option (List ℕ)) : Type 0 where
  pub bytes : List ℕ
  pub appended : Appends old new bytes

-- `answer ok`, and the block's end.
abbrev pub PutsOk : {N : ℕ} → Text N → Text N → Type 0
PutsOk old new = Puts old (codes "answer ok\n.\n") new

-- What the line of this number puts; what the driver answers, its own contracts say.
abbrev pub Prints : {N : ℕ} → Call → ℕ → Text N → Text N → Type 0
Prints Skipped number old new = new ≡ old
Prints Wrong number old new = Puts old (codes "line " ++ decimal number ++ codes ": not a line of a script\n.\n") new
Prints Fresh number old new = PutsOk old new
Prints (Rule rule) number old new = PutsOk old new
Prints (Lend l) number old new = PutsOk old new
Prints (Memory m) number old new = PutsOk old new
Prints (Buffer n) number old new = PutsOk old new
Prints _ number old new = ⊤
