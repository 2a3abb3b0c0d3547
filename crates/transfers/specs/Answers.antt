-- What a call says that it armed.
use Rattle.std.specs.Prelude.{ℕ, None, Option, Some}
use Rattle.transfers.specs.declared.answers.Armed.{Armed}
use Rattle.transfers.specs.declared.answers.ArmedOut.{ArmedOut}
use Rattle.cutting.specs.declared.packetiser.Arm.{Arm}

-- Nothing was armed.
abbrev pub nothing_armed : Armed
nothing_armed = record { setup = None; first = None; second = None }

-- A packet that was armed, with its address and endpoint.
abbrev pub out_of : ℕ → ℕ → Option Arm → Option ArmedOut
out_of a e None = None
out_of a e (Some x) = Some (record { address = a; endpoint = e; arm = x })

-- Up to two OUT packets, in the order in which they were armed.
abbrev pub outs_armed : ℕ → ℕ → Option Arm → Option Arm → Armed
outs_armed a e x y = record { setup = None; first = out_of a e x; second = out_of a e y }
