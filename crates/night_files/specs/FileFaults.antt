-- Why a device, a step towards a file, or a record is not had.
use Rattle.std.specs.declared.io.ErrorKind.{ErrorKind}
use Rattle.std.specs.declared.io.ErrorKind.TheVariants as kind
use Rattle.byte_reading.specs.declared.reading.Unread.{Unread}
use Rattle.byte_reading.specs.declared.reading.Unread.TheVariants as unread
use Rattle.night_files.specs.declared.fault.DeviceFault.{DeviceFault}
use Rattle.night_files.specs.declared.fault.DeviceFault.TheVariants as device
use Rattle.night_files.specs.declared.fault.RecordFault.{RecordFault}
use Rattle.night_files.specs.declared.fault.RecordFault.TheVariants as record_fault_of
use Rattle.night_files.specs.declared.fault.FileFault.{FileFault}
use Rattle.night_files.specs.declared.fault.FileFault.TheVariants as file
use Rattle.night_files.specs.declared.record_use.RecordRefusal.{RecordRefusal}
use Rattle.night_files.specs.declared.record_use.RecordRefusal.TheVariants as refusal

-- the system is out of memory, or gives its reason
abbrev pub file_fault : ErrorKind → FileFault
file_fault kind.OutOfMemory = file.Memory
file_fault reason = file.System reason

-- the same of a file that is read
abbrev pub unread_fault : Unread → FileFault
unread_fault unread.Memory = file.Memory
unread_fault (unread.Device reason) = file.System reason

-- a step towards a record's file that failed
abbrev pub file_record_fault : FileFault → RecordFault
file_record_fault file.Memory = record_fault_of.Memory
file_record_fault (file.System reason) = record_fault_of.File reason

-- a record that is kept in no such file: one whose name leads to another one by now is told as one
-- that is not found
abbrev pub refused_record : RecordRefusal → RecordFault
refused_record refusal.NotEmpty = record_fault_of.NotEmpty
refused_record refusal.NoFile = record_fault_of.NoFile
refused_record refusal.NoLocks = record_fault_of.NoLocks
refused_record refusal.OtherName = record_fault_of.File kind.NotFound

-- a device that failed for a reason: the system is out of memory, or the device is told
abbrev pub device_fault : ErrorKind → DeviceFault → DeviceFault
device_fault kind.OutOfMemory failure = device.Memory
device_fault reason failure = failure
