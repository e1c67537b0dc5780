-- What holds of the columns of a bank, in one record.
use Rattle.std.proofs.Common.{◌≡◌, ℕ, List, length, slice_index}
use Rattle.tags.specs.Invariants.{NoTag, Linked, Counted, Free, Apart, unnamed}
use Rattle.tags.specs.declared.columns.Columns.{Columns}

pub record Holds (addresses carried lines counts : List ℕ) : Type 0 where
  pub no_tag : NoTag addresses carried
  pub nameless : slice_index lines 0 ≡ unnamed
  pub uncounted : slice_index counts 0 ≡ 0
  pub linked : Linked addresses carried lines
  pub counted : Counted carried counts
  pub free : Free counts lines
  pub apart : Apart lines
  pub addressed : length addresses ≡ 128
  pub registers : length carried ≡ 128
  pub named : length lines ≡ 128
  pub tags : length counts ≡ 128

pub held : (c : Columns) → Holds c.addresses c.carried c.lines c.counts
held c =
    record {
      no_tag = c.no_tag;
      nameless = c.no_line.0;
      uncounted = c.no_line.1;
      linked = c.linked;
      counted = c.counted;
      free = c.free;
      apart = c.apart;
      addressed = c.sized.0;
      registers = c.sized.1;
      named = c.sized.2;
      tags = c.sized.3;
    }
