-- Why a file is not loaded.
use Rattle.std.specs.Prelude.{ℕ, List, codes}
use Rattle.std.specs.declared.io.ErrorKind.{ErrorKind}
use Rattle.std.specs.declared.io.ErrorKind.TheVariants.{NotFound, OutOfMemory}
use Rattle.bench.specs.declared.fault.FileFault.{FileFault}
use Rattle.bench.specs.declared.fault.FileFault.TheVariants.{Missing, Unreadable, OutOfMemory as NoMemory, Refused}
use Rattle.image.specs.Causes.{printed}

-- What an error of the system says of a file: that it is missing, that there is no memory for it, or else that it cannot be read.
abbrev pub fault_of : ErrorKind → FileFault
fault_of NotFound = Missing
fault_of OutOfMemory = NoMemory
fault_of _ = Unreadable

-- The printed fault: why there is no image, or what is printed of the fault that the image carries.
abbrev pub text_of : FileFault → List ℕ
text_of Missing = codes "no image"
text_of Unreadable = codes "no image: the file cannot be read"
text_of NoMemory = codes "no image: out of memory"
text_of (Refused fault) = printed fault
