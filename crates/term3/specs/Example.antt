-- Whose turn it is, in the smallest cases, computed by the checker: the page to read first.
use Rattle.std.specs.Prelude.{◌≡◌, refl, List, [], ◌∷◌, ◌++◌, ℕ, replicate, Err, Ok, Some, None}
use Rattle.transfers.specs.declared.driver.DeskRule.TheVariants.{One}
use Rattle.transfers.specs.declared.host_controller.DataPhase.TheVariants.{None as phase_none}
use Rattle.transfers.specs.declared.host_controller.TransferExtras.TheVariants.{Normal}
use Rattle.transfers.specs.Calls.{cancel_of, begin_control_of}
use Rattle.transfers.specs.State.{served, sound}
use Rattle.dispatcher.specs.Dispatcher.{first_from}
use Rattle.host.specs.declared.answers.SubmitRefusal.TheVariants.{Quota}
use Rattle.host.specs.declared.controller.HostController.{HostController}
use Rattle.host.specs.Controller.{fresh_host}
use Rattle.host.specs.Submit.{submit_of}
use Rattle.host.specs.Turn.{whose_turn_of}
use Rattle.host.specs.Start.{control, start_of}
use Rattle.record.specs.Calls.{control_begin, cancel}
use Rattle.record.specs.Calls as D
use Rattle.record.specs.Example.{lent_memory, lent_log, configure}
use Rattle.term3.specs.Calls.{Call, submit, whose_turn, start, driver, call}
use Rattle.term3.specs.Turns.{after, looked}

-- Caller c comes with SET_CONFIGURATION 1 to address 5, a control without data.
abbrev pub comes : ℕ → Call
comes c = submit c configure 0 1

-- The caller whose turn it is starts, in frame f.
abbrev pub starts_in : ℕ → Call
starts_in f = start control f [] lent_memory lent_log

-- In frame 1.
abbrev pub starts : Call
starts = starts_in 1

-- The transfer under way is cancelled.
abbrev pub stops : Call
stops = driver cancel refl

-- Shares of four bytes a frame, which no control without data passes.
abbrev pub fresh : HostController
fresh = fresh_host One (replicate 8 4)

-- Whose turn it is after these calls.
pub record Turned : Type 0 where
  pub nobody_came : looked (after fresh []) 1 ≡ None
  -- The first to come.
  pub first : looked (after fresh (comes 3 ∷ comes 1 ∷ [])) 1 ≡ Some 3
  -- While a transfer is under way.
  pub busy : looked (after fresh (comes 3 ∷ starts ∷ comes 1 ∷ [])) 1 ≡ None
  -- The next higher number that waits, going round, itself last.
  pub next : looked (after fresh (comes 3 ∷ starts ∷ comes 1 ∷ comes 5 ∷ comes 3 ∷ stops ∷ [])) 1 ≡ Some 5
  pub round : looked (after fresh (comes 3 ∷ starts ∷ comes 1 ∷ comes 5 ∷ comes 3 ∷ stops ∷ starts ∷ stops ∷ [])) 1 ≡ Some 1
  pub itself : looked (after fresh (comes 3 ∷ starts ∷ comes 1 ∷ comes 5 ∷ comes 3 ∷ stops ∷ starts ∷ stops ∷ starts ∷ stops ∷ [])) 1 ≡ Some 3
  pub zero_after_7 : looked (after fresh (comes 7 ∷ starts ∷ comes 0 ∷ stops ∷ [])) 1 ≡ Some 0
  -- Caller 1 had the turn before 5 came.
  pub given : looked (after fresh (comes 3 ∷ starts ∷ comes 1 ∷ stops ∷ comes 5 ∷ [])) 1 ≡ Some 1
  -- A second coming of one that waits is refused, and changes nothing.
  pub again : looked (after fresh (comes 3 ∷ comes 3 ∷ starts ∷ stops ∷ [])) 1 ≡ None

pub turned : Turned
unfolding after call submit_of whose_turn_of start_of first_from D.call cancel_of begin_control_of served sound
turned = record { nobody_came = refl; first = refl; busy = refl; next = refl; round = refl; itself = refl; zero_after_7 = refl; given = refl; again = refl }

-- ---- with bytes: request R-10

-- Caller c comes in frame f with a control of wLength n, which is what it is charged.
abbrev pub asks : ℕ → ℕ → ℕ → Call
asks c n f = submit c (control_begin 5 Normal 64 (record { bmRequestType = 0; bRequest = 9; wValue = 1; wIndex = 0; wLength = n }) phase_none) 0 f

-- Caller 0 has spent three of its four bytes in frame 1, and waits with two.
abbrev pub spent : List Call
spent = asks 0 3 1 ∷ starts ∷ stops ∷ asks 0 2 1 ∷ []

-- What the shares of four bytes do.
pub record Shared : Type 0 where
  -- "34 .. a transfer larger than its caller's share"
  pub larger : (call fresh (asks 0 5 1)).answer ≡ Err Quota
  -- "If all who wait are too small, nobody has the turn.", until another frame comes.
  pub too_small : looked (after fresh spent) 1 ≡ None
  pub another_frame : looked (after fresh spent) 2 ≡ Some 0
  pub start_in_another : (call (after fresh spent) (starts_in 2)).answer ≡ Ok 0
  -- A number that goes back is another one too.
  pub goes_back : looked (after fresh spent) 0 ≡ Some 0
  -- A refused call brings no frame.
  pub refused_frame : looked (after fresh (spent ++ (asks 0 1 2 ∷ starts ∷ []))) 1 ≡ None
  -- "A caller whose remainder is too small is passed over"
  pub passed_over : looked (after fresh (asks 0 3 1 ∷ starts ∷ asks 0 2 1 ∷ asks 1 4 1 ∷ stops ∷ [])) 1 ≡ Some 1
  -- At the end of a transfer the turn passes by the counts of the frame last seen: 1 was too small there, and 2 keeps the turn in frame 2.
  pub old_frame : looked (after fresh (asks 1 3 1 ∷ starts ∷ stops ∷ asks 0 1 1 ∷ starts ∷ asks 1 2 1 ∷ asks 2 1 1 ∷ stops ∷ [])) 2 ≡ Some 2
  -- Caller 0 came after the end, in a new frame: 1 had the turn.
  pub came_later : looked (after fresh (asks 7 3 1 ∷ starts ∷ asks 1 3 1 ∷ stops ∷ asks 0 4 2 ∷ [])) 2 ≡ Some 1
  -- A look while a transfer is under way brings its frame too.
  pub looks_on : looked (after fresh (asks 0 3 1 ∷ starts ∷ asks 0 2 1 ∷ whose_turn 2 ∷ stops ∷ [])) 1 ≡ Some 0
  -- Each has its own share: caller 3 four bytes, caller 4 three, the others none.
  pub own_share : looked (after (fresh_host One (0 ∷ 0 ∷ 0 ∷ 4 ∷ 3 ∷ 0 ∷ 0 ∷ 0 ∷ [])) (asks 4 4 1 ∷ asks 2 1 1 ∷ asks 3 4 1 ∷ [])) 1 ≡ Some 3
  -- A transfer of no bytes fits a share of 0.
  pub no_bytes : looked (after (fresh_host One (replicate 8 0)) (asks 3 0 1 ∷ [])) 1 ≡ Some 3

pub shared : Shared
unfolding after call submit_of whose_turn_of start_of first_from D.call cancel_of begin_control_of served sound
shared = record {
  larger = refl;
  too_small = refl;
  another_frame = refl;
  start_in_another = refl;
  goes_back = refl;
  refused_frame = refl;
  passed_over = refl;
  old_frame = refl;
  came_later = refl;
  looks_on = refl;
  own_share = refl;
  no_bytes = refl;
}
