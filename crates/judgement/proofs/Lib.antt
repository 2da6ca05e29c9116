-- What the code prints of a certificate is what the definitions print, from its bytes.
pub mod Printed
pub mod Fitting
