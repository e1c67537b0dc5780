use Rattle.std.proofs.Common.{◌≡◌, ℕ, List, [], ◌++◌, Option, Some, None, Ok, Err, Result, IfSome, take, arith, length-take}
use Rattle.std.proofs.lemmas.List.{take-take}
use Rattle.std.specs.Option.{option_map}
use Rattle.store.specs.Meaning.{Meaning}
use Rattle.bench.specs.Files.{IsFront, LoadsFrom, TakesRead}
use Rattle.bench.specs.declared.fault.FileFault.{FileFault}
use Rattle.bench.specs.declared.fault.FileFault.TheVariants.{Missing, Unreadable, OutOfMemory, Refused}
use Rattle.bench.proofs.file.load_through.Goals as goal

-- The front of what was read up to a limit is the front of what the reader gives.
front_of_read : (most : ℕ) (known : Option (List ℕ)) (bytes : List ℕ) → IfSome (option_map (take most) known) (λ given. bytes ≡ [] ++ given) → IsFront most known (take most bytes)
front_of_read most None bytes h = (simp length-take (omega arith), h)
front_of_read most (Some given) bytes h = (simp length-take (omega arith), rw h (take-take most most given (omega arith)))

loads : (m after : Meaning) (known : Option (List ℕ)) (image : List ℕ) (r : Result ℕ FileFault) → IsFront 65536 known image → TakesRead m image r after → LoadsFrom m known r after
loads m after known image (Ok count) is takes = (image, is, takes)
loads m after known image (Err (Refused fault)) is takes = (image, is, takes)
loads m after known image (Err Missing) is takes = absurd takes
loads m after known image (Err Unreadable) is takes = absurd takes
loads m after known image (Err OutOfMemory) is takes = absurd takes

pub returns : goal.returns
returns g c =
    let read = rw (c.take.ensures.inner, c.take.ensures.limit, c.requires.empty) at c.in_ok-read_to_end.ensures.bytes in
    let is : IsFront 65536 (g.R.Read.remaining c.args.reader) (take 65536 c.deref.result.now) = rw c.deref.ensures.value (front_of_read 65536 _ c.read_to_end.new.buf.items read) in
    loads (g.S.Store.meaning c.args.store.now) (g.S.Store.meaning c.take_read.new.store) _ (take 65536 c.deref.result.now) c.take_read.result is c.take_read.ensures
