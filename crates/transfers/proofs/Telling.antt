-- Outcomes one after another: writes in front of an outcome. Assumes nothing.
use Rattle.std.proofs.Common.{◌≡◌, ℕ, ◌+◌, List, length, ◌∙◌, subst, ap₂, zero-add}
use Rattle.transfers.specs.declared.driver.Driver.{Driver}
use Rattle.transfers.specs.declared.log.Log.{Log}
use Rattle.transfers.specs.declared.progress.Progress.{Progress}
use Rattle.transfers.specs.Log.{Write}
use Rattle.transfers.specs.Puts.{Puts}
use Rattle.transfers.specs.Outcome.{Outcome, after}
use Rattle.transfers.specs.Acts.{told, Tells, Moves, Acts}
use Rattle.transfers.specs.Driver.{stepped_from, stepped}
use Rattle.transfers.proofs.Logs.{puts_then}

-- Writes in front.
pub tells_after : (ws : List Write) (o : Outcome) {l l₁ l₂ : Log} {r : Progress} → Puts l ws l₁ → Tells o l₁ r l₂ → Tells (after ws o) l r l₂
tells_after ws o w t = record { result = t.result; log = puts_then w t.log }

pub moves_after : (ws : List Write) (o : Outcome) {l l₁ l₂ : Log} {m : List ℕ} {r : Progress} → Puts l ws l₁ → Moves o l₁ r m l₂ → Moves (after ws o) l r m l₂
moves_after ws o w t = record { tells = tells_after ws o w t.tells; memory = t.memory }

pub acts_after : (ws : List Write) (o : Outcome) {l l₁ l₂ : Log} {m b : List ℕ} {r : Progress} → Puts l ws l₁ → Acts o l₁ r m b l₂ → Acts (after ws o) l r m b l₂
acts_after ws o w t = record { tells = tells_after ws o w t.tells; memory = t.memory; buffer = t.buffer }

-- The same outcome in other words.
pub tells_at : {o o' : Outcome} {l l' : Log} {r : Progress} → o ≡ o' → Tells o l r l' → Tells o' l r l'
tells_at {l = l} {l' = l'} {r = r} e t = subst (λ (o : Outcome). Tells o l r l') e t

pub moves_at : {o o' : Outcome} {l l' : Log} {m : List ℕ} {r : Progress} → o ≡ o' → Moves o l r m l' → Moves o' l r m l'
moves_at {l = l} {l' = l'} {m = m} {r = r} e t = subst (λ (o : Outcome). Moves o l r m l') e t

-- A step's result, lifted to the driver with the count of entries.
pub lifted : (d : Driver) (o : Outcome) (p : Progress) (n : ℕ) → p ≡ told o → n ≡ 0 + length o.writes → stepped_from d p n ≡ stepped d o
lifted d o p n e k = ap₂ (λ (q : Progress) (w : ℕ). stepped_from d q w) e (k ∙ zero-add (length o.writes))
