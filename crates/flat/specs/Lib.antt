-- The flat machine: the Volt32 core as its rules describe it, with no tags and no counts.
--
-- It has a plain memory of lines and a backing copy of them, which is what the store holds; a mark on each line that was written since it last went to the backing copy; 128 data registers, each with an address and a type, whose bytes are those of the line that the address lies in; 128 instruction registers, each with an address and the 32 words that it took; the mode, ie, xct, four swiargs and the interrupt pin. It is warm from boot to halt, and else cold. A step carries out one word or enters one exception; the calls boot, step, run, trace, pin, show, flush and halt are all that anybody can do with it, and each has one answer and one outcome, whatever it is handed.
--
-- In order: every exception with its number (Exceptions); which registers there are and what they name (Registers); the data registers, memory, marks and backing copy, and what writing, moving and flushing do to them (Data); the instruction registers and taking a line (Instructions); the whole machine, and entering an exception (Machine); what an operation reads (Operands), which exception is entered instead of it (Raising), and what it does (Operations); one step (Step); the calls, and a call on another store (Calls). Worked has the machine that carries out one word; the table of worked sums uses it. docs/machine.md has the rules in plain words.
pub mod Bus
pub mod Refusals
pub mod Exceptions
pub mod Registers
pub mod Data
pub mod Instructions
pub mod Machine
pub mod Operands
pub mod Raising
pub mod Operations
pub mod Step
pub mod Calls
pub mod Fed
pub mod Leaving
pub mod Worked
