pub mod Fitting
pub mod MachineNames
pub mod RecordLines
pub mod Starting
