-- The fault that a refusal of a column is.
use Rattle.px_value.specs.declared.error.PxError.{PxError}
use Rattle.px_value.specs.declared.error.PxError.TheVariants.{OutOfMemory}
use Rattle.px_document.specs.declared.document.fault.DocumentFault.{DocumentFault}
use Rattle.px_document.specs.declared.document.fault.DocumentFault.TheVariants as fault

abbrev pub fault_of : PxError → DocumentFault
fault_of OutOfMemory = fault.OutOfMemory
fault_of _ = fault.BadDocument
