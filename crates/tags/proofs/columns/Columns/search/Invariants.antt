use Rattle.std.proofs.Common.{◌≡◌, ℕ, ◌<◌, slice_index}
use Rattle.tags.proofs.columns.Columns.search.Given as goal

-- The tag seen last that holds the line, or 0 while none was seen.
abbrev pub invariant-loop-tag : goal.invariant-loop-tag
invariant-loop-tag l = record {
  inside : l.holder < 128;
  holds : 0 < l.holder → slice_index l.self.lines l.holder ≡ l.line;
  seen : (k : ℕ) → 0 < k → k < l.tag → slice_index l.self.lines k ≡ l.line → 0 < l.holder;
}
