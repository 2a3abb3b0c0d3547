-- The host controller's calls as the interface of term 3.
use Rattle.std.specs.Prelude.{◌≡◌, List, [], ◌∷◌, ℕ, ◌≤◌, ◌<◌, length, get_or, Err, Ok}
use Rattle.transfers.specs.declared.driver.DeskRule.{DeskRule}
use Rattle.host.specs.declared.controller.HostController.{HostController}
use Rattle.host.specs.Controller.{fresh_host}
use Rattle.record.specs.Grammar.{Bytes}
use Rattle.record.specs.Asked.{Words, TypedBegin}
use Rattle.record.specs.Asked as Asked
use Rattle.record.specs.Kept as Kept
use Rattle.record.specs.Premises as Premises
use Rattle.record.specs.Term3.{Interface}
use Rattle.term3.specs.Calls.{Call, submit, whose_turn, start, driver, Answer, call}
use Rattle.term3.specs.Callers.{no_callers}
use Rattle.term3.specs.Table.{TableFrom}
use Rattle.term3.specs.Shown.{shown_from}

-- The numbers are those of the program's types; a caller, a length and a frame number may be any.
abbrev pub Typed : Call → Type 0
Typed (submit c x n f) = TypedBegin x
Typed (whose_turn f) = Unit {0}
Typed (start k f buf m log) = Bytes buf × Bytes m × Words log
Typed (driver c e) = Asked.Typed c

-- Those of every call of a list.
abbrev pub AllTyped : List Call → Type 0
AllTyped [] = Unit {0}
AllTyped (c ∷ cs) = Typed c × AllTyped cs

-- The packet memory lent is 4,096 bytes.
abbrev pub Lent : Call → Type 0
Lent (submit c x n f) = Unit {0}
Lent (whose_turn f) = Unit {0}
Lent (start k f buf m log) = length m ≡ 4096
Lent (driver c e) = Kept.Lent c

-- That of every call of a list.
abbrev pub AllLent : List Call → Type 0
AllLent [] = Unit {0}
AllLent (c ∷ cs) = Lent c × AllLent cs

-- No coming, start or step is refused.
abbrev pub Unrefused : (c : Call) → Answer c → Type 0
Unrefused (submit c x n f) (Ok tt) = Unit {0}
Unrefused (submit c x n f) (Err why) = ⊥
Unrefused (whose_turn f) a = Unit {0}
Unrefused (start k f buf m log) (Ok c) = Unit {0}
Unrefused (start k f buf m log) (Err why) = ⊥
Unrefused (driver c e) a = Premises.Unrefused c a

-- Along a list.
unfoldable pub UnrefusedFrom : HostController → List Call → Type 0
UnrefusedFrom d [] = Unit {0}
UnrefusedFrom d (c ∷ cs) = let o = call d c in Unrefused c o.answer × UnrefusedFrom o.next cs

-- "for each caller a 32-bit share, given when it is made", beside the desk rule. The theorems hold for any shares.
pub record Made : Type 0 where
  pub rule : DeskRule
  pub shares : List ℕ

-- The host controller that is made with them.
abbrev pub fresh_for : Made → HostController
fresh_for made = fresh_host made.rule made.shares

-- "Every record comes from some list if a share reaches 65,535."
pub record Reaches (shares : List ℕ) : Type 0 where
  pub caller : ℕ
  pub small : caller < 8
  pub reaches : 65535 ≤ get_or shares caller 0

-- From a fresh host controller, and nobody having come.
abbrev pub host_calls : Interface
host_calls = record {
  Made = Made;
  Ample = λ made. Reaches made.shares;
  Call = Call;
  AllTyped = AllTyped;
  AllLent = AllLent;
  shows = λ made cs. shown_from (no_callers made.shares) (fresh_for made) cs;
  Table = λ made cs. TableFrom (no_callers made.shares) (fresh_for made) cs;
  Unrefused = λ made cs. UnrefusedFrom (fresh_for made) cs;
}
