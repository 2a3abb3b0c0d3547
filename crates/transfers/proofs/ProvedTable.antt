-- Document 01's proved table holds. Assumes nothing.
use Rattle.std.proofs.Common.{◌≡◌, ℕ, zero, suc, List, map, refl, ap, ◌∙◌, lit<}
use Rattle.cutting.specs.declared.transfer_type.TransferType.{TransferType}
use Rattle.cutting.specs.declared.transfer_type.TransferType.TheVariants.{FixedSize, VariableSize}
use Rattle.cutting.specs.Cut.{lengths, numbered, in_cut_of}
use Rattle.cutting.specs.Table.{Row, in_row, Cuts}
use Rattle.cutting.proofs.Table.{rows, cut_rows}
use Rattle.pool.specs.Set.{has, set_of, insert, remove, first_where, lowest_out}
use Rattle.pool.specs.Pool.{alloc_of, free_of}
use Rattle.pool.specs.Pipe.{pipe_of, index_of}
use Rattle.transfers.specs.declared.host_controller.TransferExtras.{TransferExtras}
use Rattle.transfers.specs.declared.driver.Driver.{Driver}
use Rattle.transfers.specs.declared.driver.Pipes.{Pipes}
use Rattle.transfers.specs.Pipes.{with_pipes, open_free, opening_pipe, index_open, closing_pipe, opening}
use Rattle.transfers.specs.Sample.{classify}
use Rattle.transfers.specs.ProvedTable.{open_times, OpenFits, ProvedTable}

module _ (address : ℕ) (extras : TransferExtras) (endpoint size interval : ℕ) (log : List ℕ)
    (fits : OpenFits address extras endpoint size interval log) where
  -- With such fields open goes on to the pool.
  pub free : (ps : Pipes) → opening_pipe ps address extras endpoint size interval log ≡ open_free ps address extras endpoint size interval
  unfolding opening_pipe
  free ps = rw (fits.room, fits.below, fits.known, fits.small)

  free_times : ℕ → Pipes → Pipes
  free_times zero ps = ps
  free_times (suc k) ps = (open_free (free_times k ps) address extras endpoint size interval).next

  times : (k : ℕ) (d : Driver) → open_times address extras endpoint size interval log k d ≡ with_pipes d (free_times k d.pipes)
  unfolding open_times free_times
  times zero d = refl
  times (suc k) d =
      ap (λ (x : Driver). (opening x address extras endpoint size interval log).next) (times k d)
      ∙ ap (λ e. with_pipes d e.next) (free (free_times k d.pipes))

-- A row of the cutting lines, from the lengths.
table_row : (t : TransferType) (n : ℕ) (rs : List Row) → rows (lengths t 64 n) ≡ rs → Cuts t n rs
table_row t n rs e b l k = cut_rows t 64 b l (lit< tt) ∙ ap (λ (m : ℕ). rows (lengths t 64 m)) k ∙ e

pub proved_table : ProvedTable
unfolding lengths rows in_cut_of numbered classify free_times open_free closing_pipe index_open alloc_of free_of pipe_of index_of has set_of insert remove first_where lowest_out
proved_table = record {
  none = λ t. table_row t 0 _ (either t (λ (u : TransferType). rows (lengths u 64 0) ≡ _) refl refl);
  short = λ t. table_row t 63 _ (either t (λ (u : TransferType). rows (lengths u 64 63) ≡ _) refl refl);
  fixed = table_row FixedSize 64 _ refl;
  variable = table_row VariableSize 64 _ refl;
  long = λ t. table_row t 65 _ (either t (λ (u : TransferType). rows (lengths u 64 65) ≡ _) refl refl);
  twice = table_row VariableSize 128 _ refl;
  inward = λ t b. either t (λ (u : TransferType). map in_row (in_cut_of u 64 b 65) ≡ _) refl refl;
  sequence = refl;
  done = refl;
  crc = refl;
  sixteenth = λ d address extras endpoint size interval log fits. rw (times address extras endpoint size interval log fits 15, free address extras endpoint size interval log fits);
  again = λ d address extras endpoint size interval log fits. rw (times address extras endpoint size interval log fits 15, free address extras endpoint size interval log fits);
}
  where
    either : (t : TransferType) (P : TransferType → Type 0) → P FixedSize → P VariableSize → P t
    either FixedSize P f v = f
    either VariableSize P f v = v
