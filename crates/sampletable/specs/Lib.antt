pub mod SampleTable
pub mod Inside
